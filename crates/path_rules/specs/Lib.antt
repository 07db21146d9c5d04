pub mod Pairs
pub mod Steps
pub mod Loops
pub mod Weights
pub mod Made
