pub mod Saying
pub mod Making
pub mod Starting
pub mod SomeDue
pub mod OneItem
pub mod OneMade
pub mod OneDue
