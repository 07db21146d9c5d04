pub mod Verdicts
pub mod Outermost
pub mod Tables
