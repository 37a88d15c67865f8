-- Theorems about check.
pub mod Table
pub mod Naming
pub mod Faults
pub mod Inspecting
pub mod Settling
pub mod Analysing
pub mod Small
pub mod Long
pub mod Exactly
pub mod Inside
pub mod Refusals
pub mod Texts
pub mod Lookups
pub mod Resolving
pub mod Sure
pub mod Passing
