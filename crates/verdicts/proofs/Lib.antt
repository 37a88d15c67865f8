-- Theorems about the line of a text.
pub mod Saying
pub mod Settled
