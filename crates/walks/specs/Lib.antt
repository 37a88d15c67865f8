-- One path of the search, from the start of main or from a checkpoint up to its end.
-- Walk says what a caller is promised, in the words of `simulation`; Checkpoints says what the checkpoints are.
pub mod Checkpoints
pub mod Walk
