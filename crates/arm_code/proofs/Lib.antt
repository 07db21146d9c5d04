pub mod Sums
pub mod Candidates
pub mod Same
pub mod Spelling
pub mod Timing
pub mod Ways
pub mod Apart
