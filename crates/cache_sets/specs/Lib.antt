pub mod Sets
pub mod Verdicts
