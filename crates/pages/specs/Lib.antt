-- The sheet for the wall.
pub mod Pages
pub mod Laid
pub mod Parts
