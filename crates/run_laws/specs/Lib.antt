pub mod Obeying
pub mod Flowing
pub mod Ranges
pub mod Chains
pub mod Reached
pub mod Moving
pub mod Stepping
pub mod CodeBytes
