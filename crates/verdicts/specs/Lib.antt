-- What is printed for a text that is only checked.
pub mod Line
