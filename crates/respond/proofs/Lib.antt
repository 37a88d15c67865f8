-- Theorems of what the program prints.
pub mod Rows
pub mod Printed
pub mod Needed
pub mod Puts
pub mod Examples
