pub mod Rows
pub mod Stays
pub mod Laws
