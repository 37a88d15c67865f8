-- What the rules of a text speak of.
pub mod Event
pub mod Read
pub mod Walk
pub mod Visit
