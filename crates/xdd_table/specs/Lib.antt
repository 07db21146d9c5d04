pub mod Diagram
pub mod Order
