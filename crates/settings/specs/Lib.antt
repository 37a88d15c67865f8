pub mod Table
pub mod Plan
pub mod Seek
pub mod Rows
pub mod Tries
