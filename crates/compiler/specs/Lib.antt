-- The code of a resolved program.
pub mod Coded
pub mod Sound
pub mod Compile
pub mod Pass
