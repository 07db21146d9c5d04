mod FinishLemmas
mod Lists
mod StartLemmas
mod GraphLemmas
