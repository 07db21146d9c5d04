-- What the block of a node hands on from a vector of a pool. This project's own.
use Rattle.std.specs.Prelude.{◌≡◌, ℕ, ◌<◌, Bool, List, [], ◌∷◌, length, slice_get, Some}
use Rattle.wx_base.specs.declared.machine.Machine.{Machine}
use Rattle.wx_base.specs.Blocks.{finish_from}
use Rattle.wx_base.specs.Machine.{IsMachine}
use Rattle.xdd_table.specs.declared.node.Dd.{Dd}
use Rattle.xdd_table.specs.declared.node.Node.{Node}
use Rattle.xdd_table.specs.Diagram.{Combination, time, Keeps}
use Rattle.flow_block.specs.declared.block.Block.{Block}
use Rattle.flow_block.specs.Blocks.{most_slots}
use Rattle.flow_ctx.specs.declared.unfolded.Unfolded.{Unfolded}
use Rattle.flow_ctx.specs.Laws.{IsUnfoldedOn}
use Rattle.flow_ctx.specs.Nodes.{IsBlockOf}
use Rattle.pipe_time.specs.declared.vector.Vector.{Vector}
use Rattle.pipe_block.specs.declared.diagrams.Leaving.{Leaving}
use Rattle.pipe_block.specs.Events.{entries_of}
use Rattle.pipe_block.specs.Laws.{KeepsVectors}
use Rattle.pipe_block.specs.Kept.{AreEndsRight}
use Rattle.pipe_block.specs.Leavings.{IsLeaving, KeepsLeavings}
use Rattle.pipe_block.specs.Times.{AreDiagrams, IsDiagram}
use Rattle.node_exits.specs.declared.work.Work.{Work}

-- a node of an unfolding on a machine
pub record IsNode (u : Unfolded) (m : Machine) (node : ℕ) : Type 0 where
  pub machine : IsMachine m
  pub unfolded : IsUnfoldedOn m u
  pub within : node < length u.nodes

-- what was worked out is right
pub record IsRight (nodes : List Node) (u : Unfolded) (m : Machine) (work : Work) : Type 0 where
  pub ends : AreEndsRight nodes work.pool m u work.memo

-- vectors keep their places, and answers their numbers
pub record KeepsWork (old new : Work) : Type 0 where
  pub vectors : KeepsVectors old.pool new.pool
  pub answers : KeepsLeavings old.memo.leavings new.memo.leavings

-- a diagram that has, at each combination, the finish of a node's block from a vector
pub record IsNodeFinish (nodes : List Node) (u : Unfolded) (m : Machine) (node : ℕ) (from : Vector) (d : Dd) : Type 0 where
  pub diagram : IsDiagram nodes most_slots d
  pub each : (block : Block) (f : Combination) → IsBlockOf u node block
      → time nodes f d.place ≡ finish_from m from.slots (entries_of block f)

-- what a node's block hands on from a vector along an edge by which its last instruction jumps or does not
pub record IsNodeLeaving (nodes : List Node) (u : Unfolded) (m : Machine) (node : ℕ) (from : Vector) (taken : Bool) (l : Leaving) : Type 0 where
  pub diagrams : AreDiagrams nodes most_slots (l.cost ∷ l.place ∷ [])
  pub each : (block : Block) → IsBlockOf u node block → IsLeaving nodes m from.slots block taken l

-- the answer with a number is what a node's block hands on
pub record IsAnswer (nodes : List Node) (u : Unfolded) (m : Machine) (node : ℕ) (from : Vector) (taken : Bool) (work : Work) (number : ℕ) : Type 0 where
  pub leaving : Leaving
  pub listed : slice_get work.memo.leavings number ≡ Some leaving
  pub is : IsNodeLeaving nodes u m node from taken leaving

-- it stays what it is as the table grows
abbrev pub NodeLeavingStays : Type 0
NodeLeavingStays =
    (old new : List Node) (u : Unfolded) (m : Machine) (node : ℕ) (from : Vector) (taken : Bool) (l : Leaving) →
    Keeps old new → IsNodeLeaving old u m node from taken l → IsNodeLeaving new u m node from taken l

-- and so does what was worked out
abbrev pub WorkStays : Type 0
WorkStays =
    (old new : List Node) (u : Unfolded) (m : Machine) (work : Work) → Keeps old new → IsRight old u m work → IsRight new u m work
