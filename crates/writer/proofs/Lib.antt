-- Laws of the bytes that are put, by the nodes of the table; and of the answer.
pub mod Bytes
pub mod Sides
pub mod Nodes
pub mod Leaves
pub mod Whole
pub mod Answered
pub mod Settled
