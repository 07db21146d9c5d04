-- The list of the different outcomes of an edge. This project's own.
use Rattle.std.specs.Prelude.{◌≡◌, ℕ, List, ◌∷◌, [], slice_get, Some}
use Rattle.xdd_table.specs.declared.node.Node.{Node}
use Rattle.xdd_table.specs.Diagram.{Combination, time}
use Rattle.pipe_block.specs.declared.diagrams.BlockExit.{BlockExit}
use Rattle.pipe_block.specs.declared.diagrams.Outcome.{Outcome}
use Rattle.pipe_block.specs.declared.diagrams.OutcomeList.{OutcomeList}
use Rattle.pipe_block.specs.declared.row.Row.{Row}
use Rattle.pipe_block.specs.Times.{times_at, AreDiagrams}

-- a row as an outcome
abbrev pub outcome_of : Row → Outcome
outcome_of row = record { cost = row.number; vector = record { slots = row.slots } }

-- an exit at a combination as the outcome of a list
abbrev pub outcome_at : List Node → BlockExit → Combination → Outcome
outcome_at nodes e f = record { cost = time nodes f e.cost.place; vector = record { slots = times_at nodes f e.slots } }

-- the list has each outcome that some combination gives, once, and no other; the diagram leads to its position
pub record AreOutcomes (old new : List Node) (e : BlockExit) (o : OutcomeList) : Type 0 where
  pub each : (f : Combination) → slice_get o.list (time new f o.place.place) ≡ Some (outcome_at old e f)
  pub given : (i : ℕ) (x : Outcome) → slice_get o.list i ≡ Some x → (f : Combination) × (x ≡ outcome_at old e f)
  pub once : (i j : ℕ) (x : Outcome) → slice_get o.list i ≡ Some x → slice_get o.list j ≡ Some x → i ≡ j
  pub diagrams : (bound : ℕ) → AreDiagrams old bound (e.cost ∷ e.slots) → AreDiagrams new bound (o.place ∷ [])
