-- Theorems that the proofs of several functions cite.
pub mod Words
pub mod Lines
pub mod Examples
pub mod Kept
pub mod Reach
pub mod Good
pub mod Sizes
