-- Theorems on what checkpoints keep.
pub mod Places
pub mod Copying
pub mod Keeping
pub mod Beside
pub mod Again
pub mod Starts
