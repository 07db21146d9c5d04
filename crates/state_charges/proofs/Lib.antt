pub mod EdgeLemmas
pub mod KeyLemmas
pub mod MissLemmas
pub mod PushLemmas
pub mod RaisingLemmas
pub mod VectorLemmas
