-- How the nodes of a flow follow one another, node by node. This project's own.
use Rattle.std.specs.Prelude.{◌≡◌, ◌↔◌, ℕ, List, [], map, length, slice_index_or, Contains}
use Rattle.std.specs.Global.{Vec}
use Rattle.cache_flow.specs.declared.flow.Move.{Move}
use Rattle.cache_kept.specs.declared.ways.Ways.{Ways}

-- the numbers in each list
abbrev pub lists_of : List (Vec ℕ) → List (List ℕ)
lists_of lists = map (λ list. list.items) lists

-- those in the list of a node
abbrev pub list_at : List (Vec ℕ) → ℕ → List ℕ
list_at lists node = slice_index_or (lists_of lists) node []

-- a move the other way round
abbrev pub turned : Move → Move
turned step = record { from = step.to; to = step.from }

-- each list has the sources of the moves that lead to its node
pub record AreSources (count : ℕ) (moves : List Move) (lists : List (Vec ℕ)) : Type 0 where
  pub long : length lists ≡ count
  pub exact : (source target : ℕ) → Contains (list_at lists target) source
      ↔ Contains moves (record { from = source; to = target })

-- each list has the targets of the moves that lead from its node
pub record AreTargets (count : ℕ) (moves : List Move) (lists : List (Vec ℕ)) : Type 0 where
  pub long : length lists ≡ count
  pub exact : (source target : ℕ) → Contains (list_at lists source) target
      ↔ Contains moves (record { from = source; to = target })

-- the moves of a flow with so many nodes
pub record AreWays (count : ℕ) (moves : List Move) (ways : Ways) : Type 0 where
  pub sources : AreSources count moves ways.sources.items
  pub targets : AreTargets count moves ways.targets.items
