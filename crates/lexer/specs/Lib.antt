pub mod Lex
pub mod Tokens
pub mod Parts
