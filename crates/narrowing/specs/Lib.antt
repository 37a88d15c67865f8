-- Narrowing is defined in `semantics` (Search); here stands what the code's types mean in its words.
pub mod Meaning
