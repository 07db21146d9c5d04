pub mod Prices
pub mod Rules
pub mod Judged
pub mod Laws
