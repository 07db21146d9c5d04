pub mod Program
pub mod Refusals
pub mod Numbers
pub mod Laws
pub mod Reached
pub mod Listing
pub mod Outlines
