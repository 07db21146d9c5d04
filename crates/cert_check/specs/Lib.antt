pub mod Answers
pub mod Judging
pub mod Places
pub mod Progress
