-- What the code's entries mean.
pub mod Meaning
