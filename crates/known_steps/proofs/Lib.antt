-- Theorems of turns on known values.
pub mod Cells
pub mod Decided
pub mod Making
pub mod Passing
pub mod Working
