pub mod Bytes
pub mod Numbers
pub mod Longest
pub mod Fronts
pub mod Loop
pub mod Turns
pub mod Theorems
pub mod Examples
