mod Least
mod Runs
mod Shown
