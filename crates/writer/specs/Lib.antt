-- What the writer answers and leaves (Write); what its functions promise each other (Parts).
pub mod Write
pub mod Parts
