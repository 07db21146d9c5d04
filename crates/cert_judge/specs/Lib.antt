pub mod Settled
pub mod Offers
pub mod Payments
pub mod Laws
