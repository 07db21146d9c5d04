mod Lists
mod Nodes
mod EdgeLemmas
mod NestLemmas
mod BlockWays
mod Sizes
mod Passing
mod Closed
