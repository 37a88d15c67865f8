-- What the exported functions write.
pub mod Answers
pub mod Page
pub mod Write
