pub mod Cpu
pub mod Ranges
pub mod Effects
pub mod Blocks
pub mod Stores
