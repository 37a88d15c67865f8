-- List: what it answers and leaves for every input, and what it promises.
pub mod List
pub mod Promise
pub mod Parts
pub mod Code
