-- Theorems of the machine in memory.
pub mod Tables
pub mod Operands
pub mod Own
pub mod Stays
pub mod Moves
pub mod Arguments
pub mod Capacity
pub mod Entries
pub mod Beside
