-- Ranges and deciding are defined in `semantics` (Search); here stands what the code's type means in its words.
pub mod Meaning
