-- The loop over the paths of the search, up to its answer.
-- Loop says what a caller is promised; the rest is what the functions on the way promise each other.
pub mod Loop
