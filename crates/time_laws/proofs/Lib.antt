pub mod JumpLemmas
pub mod AlongLemmas
