-- The machine of `simulation` in lent memory: what the words stand for, and what the functions promise.
pub mod Layout
pub mod Kinds
pub mod Memory
pub mod Terms
