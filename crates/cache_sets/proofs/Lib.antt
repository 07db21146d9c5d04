mod SetLemmas
mod KeptSets
mod VerdictLemmas
