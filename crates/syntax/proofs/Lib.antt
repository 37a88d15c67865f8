-- Laws of the table.
pub mod Rows
pub mod Words
pub mod SameKinds
