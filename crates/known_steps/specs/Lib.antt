-- Turns that are made one after another on known values.
pub mod Cells
pub mod Turns
