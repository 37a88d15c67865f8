-- Names: one event after the other, as the code takes them.
pub mod Steps
