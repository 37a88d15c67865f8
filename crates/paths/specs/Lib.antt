-- A path of the search in lent memory: ranges, windows and choices, and one turn.
-- Point says what the memory stands for at a point of a path, Turn what a turn makes of it, in the words of `simulation`; the others are what the functions on the way promise each other.
pub mod Table
pub mod Choice
pub mod Point
pub mod Turn
