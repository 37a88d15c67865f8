-- Theorems.
pub mod Laws
pub mod Parts
pub mod Leaves
pub mod Nodes
pub mod Statements
pub mod Programs
pub mod Whole
pub mod Placing
pub mod Meanings
pub mod Lengths
pub mod Agreeing
pub mod Fitting
