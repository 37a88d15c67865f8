-- The rules of a text.
pub mod Scan
pub mod Spelling
pub mod Rules
pub mod Assigned
pub mod Names
pub mod Scopes
pub mod Own
pub mod Resolve
pub mod Answers
