-- Remarks.
pub mod Remarks
pub mod Words
pub mod Steps
