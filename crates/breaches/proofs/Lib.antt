-- Laws for the code of the rules.
pub mod OwnPairs
