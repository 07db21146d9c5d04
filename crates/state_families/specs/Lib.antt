pub mod Families
pub mod Fresh
pub mod Leaving
pub mod Growth
pub mod Incoming
pub mod Small
