pub mod Searching
pub mod Frames
pub mod Moves
pub mod Steps
pub mod Whole
pub mod Few
pub mod TotalCounts
