-- Theorems on the checkpoints of a search, and on a path from where it begins to its end.
pub mod Blank
pub mod Checkpoints
pub mod InUse
pub mod Walking
pub mod Dropping
pub mod Beginning
pub mod Near
