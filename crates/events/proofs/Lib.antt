-- Theorems.
pub mod Laws
pub mod Nodes
pub mod Counting
pub mod Leaves
pub mod Steps
pub mod Widths
pub mod Capacity
pub mod Tokens
pub mod Rising
pub mod Enough
