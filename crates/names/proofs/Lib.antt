-- Laws that the proofs of several functions cite.
pub mod Seeing
pub mod Meanings
pub mod Merging
pub mod Walks
