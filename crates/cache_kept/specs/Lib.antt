pub mod Ways
pub mod Walk
pub mod Parts
pub mod Roots
pub mod Newer
pub mod Search
