-- What a call does to its store, as far as the store tells it. This project's own.
use Rattle.std.specs.Prelude.{◌≡◌, ℕ, List, Option}
use Rattle.wx_host.specs.Outside.{Contents}

-- what a store tells of its reads, or of its writes, so far: how many failed, and their names in order, where it tells these
pub record Log : Type 0 where
  pub faults : ℕ
  pub names : Option (List (List ℕ))

abbrev pub log_of : ℕ → Option (List (List ℕ)) → Log
log_of faults names = record { faults = faults; names = names }

-- a store as it stands: what it holds, and its reads and its writes so far
pub record StoreState : Type 0 where
  pub holds : Option Contents
  pub reads : Log
  pub writes : Log

abbrev pub state_of : Option Contents → Log → Log → StoreState
state_of holds reads writes = record { holds = holds; reads = reads; writes = writes }

-- a store before and after a call
pub record StoreUse : Type 0 where
  pub before : StoreState
  pub after : StoreState

abbrev pub use_between : StoreState → StoreState → StoreUse
use_between before after = record { before = before; after = after }

-- what is held and the writes are as they were
pub record IsUntouched (used : StoreUse) : Type 0 where
  pub holds : used.after.holds ≡ used.before.holds
  pub names : used.after.writes.names ≡ used.before.writes.names
  pub faults : used.after.writes.faults ≡ used.before.writes.faults
