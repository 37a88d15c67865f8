-- Tokens, syntax trees and the table that holds a tree.
pub mod Token
pub mod TokenKinds
pub mod Source
pub mod Refusals
pub mod Tree
pub mod Ast
pub mod Abstract
pub mod Table
pub mod NodeKinds
pub mod Fetch
