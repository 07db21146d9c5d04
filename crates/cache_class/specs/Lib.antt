pub mod Accesses
pub mod Classes
pub mod Allowed
pub mod Groups
pub mod GroupsSoFar
pub mod Laws
pub mod Chains
pub mod Tables
