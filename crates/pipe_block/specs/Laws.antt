-- What blocks of a function are, and what kept answers last through. This project's own.
use Rattle.std.specs.Prelude.{◌≡◌, ℕ, Bool, List, [], slice_get, Some}
use Rattle.wx_base.specs.declared.facts.Facts.{Facts}
use Rattle.wx_base.specs.declared.image.Image.{Image}
use Rattle.wx_base.specs.declared.machine.Machine.{Machine}
use Rattle.xdd_table.specs.declared.node.Node.{Node}
use Rattle.xdd_table.specs.Diagram.{Keeps}
use Rattle.flow_block.specs.declared.block.Block.{Block}
use Rattle.flow_block.specs.Blocks.{IsBlock}
use Rattle.flow_ctx.specs.declared.unfolded.Unfolded.{Unfolded}
use Rattle.flow_ctx.specs.Laws.{IsUnfoldedOn}
use Rattle.flow_ctx.specs.Nodes.{IsBlockOf}
use Rattle.pipe_time.specs.declared.vector.Vector.{Vector}
use Rattle.pipe_time.specs.Pool.{Stands}
use Rattle.xdd_table.specs.declared.node.Dd.{Dd}
use Rattle.pipe_block.specs.declared.diagrams.BlockVector.{BlockVector}
use Rattle.pipe_block.specs.declared.diagrams.Leaving.{Leaving}
use Rattle.pipe_block.specs.Events.{IsTimed}
use Rattle.pipe_block.specs.Times.{AreTimes}
use Rattle.pipe_block.specs.Leavings.{IsFinishOf, IsLeaving}
use Rattle.pipe_block.specs.Kept.{AreEndsRight, Memo}

-- each block of a function can be timed
abbrev pub BlocksAreTimed : Type 0
BlocksAreTimed =
    (image : Image) (facts : Facts) (machine : Machine) (entry : ℕ) (block : Block) →
    IsBlock image facts machine entry block → IsTimed block

-- so can the block of each node of an unfolding
abbrev pub NodesAreTimed : Type 0
NodesAreTimed = (machine : Machine) (u : Unfolded) (number : ℕ) (block : Block) → IsUnfoldedOn machine u → IsBlockOf u number block → IsTimed block

-- earlier places keep their vectors
pub record KeepsVectors (old new : List Vector) : Type 0 where
  pub kept : (place : ℕ) (v : Vector) → slice_get old place ≡ Some v → slice_get new place ≡ Some v

-- the times of a block stay as the table grows
abbrev pub TimesStay : Type 0
TimesStay =
    (old new : List Node) (m : Machine) (from : List ℕ) (block : Block) (v : BlockVector) → Keeps old new → AreTimes old m from block v → AreTimes new m from block v

-- so does its finish
abbrev pub FinishesStay : Type 0
FinishesStay =
    (old new : List Node) (m : Machine) (from : List ℕ) (block : Block) (d : Dd) → Keeps old new → IsFinishOf old m from block d → IsFinishOf new m from block d

-- and what it hands on
abbrev pub LeavingsStay : Type 0
LeavingsStay =
    (old new : List Node) (m : Machine) (from : List ℕ) (block : Block) (taken : Bool) (l : Leaving) →
    Keeps old new → IsLeaving old m from block taken l → IsLeaving new m from block taken l

-- right answers stay right as table and pool grow
abbrev pub RightEndsStay : Type 0
RightEndsStay =
    (old new : List Node) (pool more : List Vector) (m : Machine) (u : Unfolded) (memo : Memo) →
    Keeps old new → KeepsVectors pool more → AreEndsRight old pool m u memo → AreEndsRight new more m u memo

-- where nothing is kept, all that is kept is right
abbrev pub NoEndIsRight : Type 0
NoEndIsRight =
    (nodes : List Node) (pool : List Vector) (m : Machine) (u : Unfolded) →
    AreEndsRight nodes pool m u (record { entries = []; leavings = [] })

-- a pool keeps its vectors when one is interned
abbrev pub InterningKeeps : Type 0
InterningKeeps = (old new : List Vector) (v : Vector) (place : ℕ) → Stands old new v place → KeepsVectors old new
