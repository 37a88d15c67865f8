-- Pairs in memory.
pub mod Memory
