pub mod Graph
pub mod Conditions
pub mod Tested
pub mod Sources
