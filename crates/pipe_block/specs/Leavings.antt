-- What a block hands on from a vector, as diagrams over the block's events: its finish, and what an edge hands on with the different
-- outcomes listed. This project's own.
use Rattle.std.specs.Prelude.{◌≡◌, ℕ, Bool, List, [], ◌∷◌, slice_get, Some}
use Rattle.wx_base.specs.declared.machine.Machine.{Machine}
use Rattle.wx_base.specs.Blocks.{Exit, exit_from, finish_from}
use Rattle.flow_block.specs.declared.block.Block.{Block}
use Rattle.flow_block.specs.Blocks.{most_slots}
use Rattle.xdd_table.specs.declared.node.Dd.{Dd}
use Rattle.xdd_table.specs.declared.node.Node.{Node}
use Rattle.xdd_table.specs.Diagram.{Combination, time}
use Rattle.pipe_block.specs.declared.diagrams.Outcome.{Outcome}
use Rattle.pipe_block.specs.declared.diagrams.Leaving.{Leaving}
use Rattle.pipe_block.specs.Events.{entries_of}
use Rattle.pipe_block.specs.Times.{IsDiagram, AreDiagrams}

-- an exit as an outcome
abbrev pub outcome_of_exit : Exit → Outcome
outcome_of_exit e = record { cost = e.cost; vector = record { slots = e.slots } }

-- the finish of a block from a vector, as a diagram over the block's events
pub record IsFinishOf (nodes : List Node) (m : Machine) (from : List ℕ) (block : Block) (d : Dd) : Type 0 where
  pub times : (f : Combination) → time nodes f d.place ≡ finish_from m from (entries_of block f)
  pub diagram : IsDiagram nodes most_slots d

-- What a block hands on from a vector, where its last instruction jumps or does not: at each combination the cost of the exit, and the
-- position of its outcome in a list that has each outcome of some combination once.
pub record IsLeaving (nodes : List Node) (m : Machine) (from : List ℕ) (block : Block) (taken : Bool) (l : Leaving) : Type 0 where
  pub cost : (f : Combination) → time nodes f l.cost.place ≡ (exit_from m from (entries_of block f) taken).cost
  pub each : (f : Combination) → slice_get l.list (time nodes f l.place.place) ≡ Some (outcome_of_exit (exit_from m from (entries_of block f) taken))
  pub given : (i : ℕ) (x : Outcome) → slice_get l.list i ≡ Some x → (f : Combination) × (x ≡ outcome_of_exit (exit_from m from (entries_of block f) taken))
  pub once : (i j : ℕ) (x : Outcome) → slice_get l.list i ≡ Some x → slice_get l.list j ≡ Some x → i ≡ j
  pub diagrams : AreDiagrams nodes most_slots (l.cost ∷ l.place ∷ [])

-- earlier numbers keep what they stand for
pub record KeepsLeavings (old new : List Leaving) : Type 0 where
  pub kept : (number : ℕ) (l : Leaving) → slice_get old number ≡ Some l → slice_get new number ≡ Some l

-- the number stands for what a block hands on from a vector
pub record IsLeavingAt (nodes : List Node) (leavings : List Leaving) (m : Machine) (from : List ℕ) (block : Block) (taken : Bool) (number : ℕ) : Type 0 where
  pub leaving : Leaving
  pub stands : slice_get leavings number ≡ Some leaving
  pub is : IsLeaving nodes m from block taken leaving
