pub mod Apart
pub mod Headers
pub mod Loaded
pub mod Numbers
pub mod Sections
pub mod Unique
mod Due
