mod Entered
mod Filled
mod Finished
mod Going
mod KeyLemmas
pub mod KeyedLists
mod BlocksOne
mod Lengths
mod Marks
mod Queued
