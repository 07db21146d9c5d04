-- Vectors and times as diagrams over the events of a block.
-- Source: this project; diagrams of times over events are execution decision diagrams.
use Rattle.std.specs.Prelude.{◌≡◌, ℕ, ◌<◌, List, ◌∷◌, length, map, All}
use Rattle.wx_base.specs.declared.machine.Machine.{Machine}
use Rattle.wx_base.specs.Blocks.{slots_after, end_from}
use Rattle.xdd_table.specs.declared.node.Dd.{Dd}
use Rattle.xdd_table.specs.declared.node.Node.{Node}
use Rattle.xdd_table.specs.Diagram.{Combination, time, EventsLess}
use Rattle.flow_block.specs.declared.block.Block.{Block}
use Rattle.pipe_block.specs.declared.diagrams.BlockVector.{BlockVector}
use Rattle.pipe_block.specs.Events.{entries_of}

-- the times of diagrams at a combination
abbrev pub times_at : List Node → Combination → List Dd → List ℕ
times_at nodes f diagrams = map (λ d. time nodes f d.place) diagrams

-- a diagram of the table that reads no event from the bound on
pub record IsDiagram (nodes : List Node) (bound : ℕ) (d : Dd) : Type 0 where
  pub within : d.place < length nodes
  pub events : EventsLess nodes d.place bound

-- so are all of a list
abbrev pub AreDiagrams : List Node → ℕ → List Dd → Type 0
AreDiagrams nodes bound diagrams = All (IsDiagram nodes bound) diagrams

-- What a block makes of a vector: at every combination the slots behind it and the end of its last instruction are those of the
-- recurrence, and no diagram reads another event than the block's.
pub record AreTimes (nodes : List Node) (m : Machine) (from : List ℕ) (block : Block) (v : BlockVector) : Type 0 where
  pub slots : (f : Combination) → times_at nodes f v.slots ≡ slots_after m from (entries_of block f)
  pub last : (f : Combination) → time nodes f v.last.place ≡ end_from m from (entries_of block f)
  pub diagrams : AreDiagrams nodes (length block.slots) (v.last ∷ v.slots)
