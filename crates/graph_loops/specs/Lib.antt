pub mod Graph
pub mod Walk
pub mod Ways
pub mod Cycles
pub mod Loops
pub mod Laws
