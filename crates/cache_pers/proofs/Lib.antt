mod Distinct
mod RowLemmas
mod States
mod Stay
