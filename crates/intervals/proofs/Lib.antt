pub mod Undecided
pub mod Narrow
