-- Theorems about the readers' definition (Grammar has what they come to), and laws for the proofs of the readers.
pub mod Machine
pub mod Accept
pub mod Lengths
pub mod Right
pub mod Statements
pub mod Place
pub mod Readings
pub mod Back
pub mod Grammar
pub mod Examples
pub mod Steps
pub mod Ends
pub mod Marks
pub mod Whole
