-- What a reader must believe: the program tree without brackets, the house style, and reading by the grammar.
pub mod Named
pub mod House
pub mod Read
