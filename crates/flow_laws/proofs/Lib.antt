mod HeadLemmas
mod ProgramLemmas
mod BlockLemmas
mod PastLemmas
