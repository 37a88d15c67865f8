-- Theorems about the sheet, and what the proofs of several functions cite.
pub mod Widths
pub mod Lists
pub mod Lines
pub mod Sheet
pub mod Pages
pub mod Laid
pub mod Numbers
pub mod Examples
