pub mod Lru
pub mod Laws
