pub mod SomeDue
pub mod Pools
pub mod OneText
pub mod OneItem
pub mod OneDue
