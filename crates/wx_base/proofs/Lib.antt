pub mod Found
pub mod MachineLemmas
pub mod Covered
pub mod Ranges
