pub mod Said
pub mod Order
pub mod Counts
pub mod Faults
pub mod Judged
