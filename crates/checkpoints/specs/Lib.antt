-- Checkpoints: which words are live at a point of a path, how they are kept, and what stands in the memory once they are back.
pub mod Live
pub mod Words
