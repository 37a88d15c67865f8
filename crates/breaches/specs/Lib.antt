-- The rules of a text are defined in crate `text_rules`; here stands what the tally of the code means.
pub mod Answers
pub mod Pairs
