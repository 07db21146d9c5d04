pub mod Flows
pub mod Solutions
pub mod Laws
pub mod Shown
