-- Theorems of the settings in memory.
pub mod Entries
pub mod Pass
pub mod Turns
pub mod Sheet
pub mod Counting
pub mod Slice
pub mod Renumbered
pub mod Placed
pub mod Planning
pub mod Rising
pub mod Seeking
pub mod Going
pub mod Missing
pub mod Loops
