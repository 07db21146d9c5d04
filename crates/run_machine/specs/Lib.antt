pub mod Judging
pub mod Report
pub mod Walk
pub mod Look
