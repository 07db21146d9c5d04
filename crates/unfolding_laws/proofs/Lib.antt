pub mod Insertion
pub mod Order
pub mod Built
pub mod Nodes
pub mod Edges
pub mod Loops
pub mod SomeDue
