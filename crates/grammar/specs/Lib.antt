-- The readers: from tokens to the syntax tree.
pub mod Parse
pub mod Text
pub mod Readers
pub mod Answer
