pub mod Cases
pub mod TestedLemmas
pub mod LinkLemmas
