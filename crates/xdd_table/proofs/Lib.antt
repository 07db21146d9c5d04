pub mod Canonical
mod LeafLemmas
mod OrderLemmas
mod StoreLemmas
pub mod TimeLaws
