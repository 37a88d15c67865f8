-- What the program reads and prints: the job line, and the lines of its answer.
pub mod JobLine
pub mod Print
pub mod Written
pub mod Parts
