-- Where a search for the nodes at which a line is known begins. This project's own.
use Rattle.std.specs.Prelude.{◌≡◌, ◌<◌, ◌↔◌, ℕ, true, List, Contains}
use Rattle.cache_ages.specs.Bounds.{is_one_of}
use Rattle.cache_flow.specs.declared.flow.Flow.{Flow}
use Rattle.cache_flow.specs.Flows.{accesses_of}

-- a move leads to the node from one of the first members, which accesses the line
pub record IsRoot (flow : Flow) (members : List ℕ) (line count root : ℕ) : Type 0 where
  pub source : ℕ
  pub early : source < count
  pub member : Contains members source
  pub accesses : is_one_of (accesses_of flow source) line ≡ true
  pub move : Contains flow.moves (record { from = source; to = root })

-- all such nodes
pub record AreRoots (flow : Flow) (members : List ℕ) (line count : ℕ) (roots : List ℕ) : Type 0 where
  pub exact : (root : ℕ) → Contains roots root ↔ IsRoot flow members line count root
