-- Rule 17: what the functions of the walk promise each other.
pub mod Group
pub mod Walk
