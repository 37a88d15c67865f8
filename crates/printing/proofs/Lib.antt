-- Theorems that the proofs of several functions cite.
pub mod Puts
pub mod Numbers
