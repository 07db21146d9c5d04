pub mod Answers
pub mod Cofactors
pub mod Given
pub mod Laws
pub mod Pairs
pub mod Read
pub mod Refusal
pub mod Text
