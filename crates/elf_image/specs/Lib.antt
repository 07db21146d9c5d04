pub mod Bytes
pub mod Causes
pub mod Fields
pub mod Meaning
pub mod Overlaps
pub mod Plain
pub mod Laws
