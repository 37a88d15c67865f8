-- Theorems about remarks.
pub mod Marking
pub mod Chains
pub mod Rising
pub mod Writing
pub mod Places
pub mod Telling
pub mod Exactly
pub mod Answered
pub mod Texts
