pub mod Sites
pub mod Blocks
pub mod Code
pub mod Events
pub mod Growth
pub mod Starts
pub mod Laws
