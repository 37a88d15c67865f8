-- Theorems of list.
pub mod Sure
pub mod Promises
pub mod Examples
pub mod Grounds
pub mod Values
pub mod Building
pub mod Searching
pub mod Listing
pub mod Bounds
