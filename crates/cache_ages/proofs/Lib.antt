pub mod Ascending
pub mod Beside
mod Covering
pub mod Places
pub mod Sets
mod States
