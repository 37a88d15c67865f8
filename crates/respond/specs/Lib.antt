-- What the program prints, for every input, and what that says of the plan list.
pub mod Output
pub mod Parts
pub mod Shows
