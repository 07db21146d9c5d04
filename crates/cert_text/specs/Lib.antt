pub mod Told
pub mod Text
pub mod Pool
pub mod Written
pub mod Writable
pub mod Laws
