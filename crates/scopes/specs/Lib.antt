-- Scopes: the declarations that can be seen, as the code holds them.
pub mod Memory
pub mod Answers
