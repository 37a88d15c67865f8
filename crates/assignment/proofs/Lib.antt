-- Laws of rule 17.
pub mod Groups
pub mod Reading
pub mod Splitting
pub mod Flowing
pub mod Counting
pub mod Gathering
pub mod Finding
