-- Flat code and where a program's parts stand in it, the machine that works it, a path of the search and how far it is from its end, the search as the machine makes it, what it means to take a choice back, and a point to which a search can come back.
-- Then how memory holds this: open values as nodes of one table, the settings one after another, code as words, and the cells of a frame that a code uses.
pub mod Code
pub mod Placed
pub mod Machine
pub mod Path
pub mod Measure
pub mod Lister
pub mod Back
pub mod Resume
pub mod Nodes
pub mod Odometer
pub mod Words
pub mod Cells
