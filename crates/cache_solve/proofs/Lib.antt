pub mod Lists
pub mod Lowering
pub mod Orders
pub mod Solving
pub mod Tables
