-- Theorems: the machine does what the rules say, its path is the search's, and the search that it makes gives the answer of the definitions.
pub mod Replay
pub mod Route
pub mod Placed
pub mod Agrees
pub mod Simulate
pub mod Bounds
pub mod Drive
pub mod Spending
pub mod Listing
pub mod Back
pub mod Resume
pub mod Cells
pub mod First
pub mod Nodes
pub mod Odometer
pub mod Size
pub mod Words
