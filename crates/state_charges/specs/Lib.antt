pub mod Charges
pub mod Misses
pub mod Raising
pub mod Subject
