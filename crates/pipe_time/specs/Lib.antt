pub mod Entries
pub mod Windows
pub mod Growth
pub mod Order
pub mod Floor
pub mod Pool
pub mod Rebase
