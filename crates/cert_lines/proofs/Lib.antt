mod WordLemmas
mod Runs
mod Sound
mod Endings
mod Fronts
mod ReaderLemmas
mod Within
