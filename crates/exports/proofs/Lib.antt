-- Laws for the exported functions.
pub mod Places
pub mod Remarks
pub mod Pages
pub mod Lists
pub mod Styles
