mod Entries
mod Runs
mod Room
