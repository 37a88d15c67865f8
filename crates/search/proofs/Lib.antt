-- Theorems of the loop over paths.
pub mod Outcomes
pub mod Backs
pub mod Rounds
pub mod Searching
