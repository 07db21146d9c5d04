pub mod Keys
pub mod Faults
pub mod Document
pub mod Values
pub mod Meeting
pub mod Causes
pub mod Laws
