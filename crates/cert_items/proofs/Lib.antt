mod SoFar
pub mod PairLemmas
mod NamedLemmas
pub mod FaultLemmas
