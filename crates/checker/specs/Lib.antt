-- Check.
pub mod Check
pub mod Sizes
pub mod Accepted
pub mod Refusal
pub mod Judge
pub mod Analysis
