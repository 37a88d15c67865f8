-- Theorems about the memory of a path.
pub mod Table
pub mod Choice
pub mod Narrowing
pub mod Choosing
pub mod Machinery
pub mod Stays
pub mod Comparing
pub mod Growing
pub mod Turning
pub mod Keeping
