pub mod Touched
pub mod Stored
pub mod Blocks
pub mod Done
pub mod Looked
