-- Answers kept for blocks of an unfolding and vectors of a pool. This project's own.
use Rattle.std.specs.Prelude.{◌≡◌, ℕ, Bool, true, false, List, [], ◌∷◌, Option, Some, IfSome, nat_eq, ◌&&◌, slice_get}
use Rattle.std.specs.Map.{lookup}
use Rattle.wx_base.specs.declared.machine.Machine.{Machine}
use Rattle.xdd_table.specs.declared.node.Dd.{Dd}
use Rattle.xdd_table.specs.declared.node.Node.{Node}
use Rattle.flow_block.specs.declared.block.Block.{Block}
use Rattle.flow_graph.specs.declared.program.Function.{Function}
use Rattle.flow_ctx.specs.declared.unfolded.UNode.{UNode}
use Rattle.flow_ctx.specs.declared.unfolded.Unfolded.{Unfolded}
use Rattle.pipe_time.specs.declared.vector.Vector.{Vector}
use Rattle.pipe_block.specs.declared.diagrams.Leaving.{Leaving}
use Rattle.pipe_block.specs.declared.ends.Ends.{Ends}
use Rattle.pipe_block.specs.declared.key.MemoKey.{MemoKey}
use Rattle.pipe_block.specs.Leavings.{IsFinishOf, IsLeavingAt}

-- two keys are one
abbrev pub same_key : MemoKey → MemoKey → Bool
same_key x y = nat_eq x.function y.function && (nat_eq x.block y.block && nat_eq x.place y.place)

-- what a memo keeps: answers for keys, and the leavings that they number
pub record Memo : Type 0 where
  pub entries : List (MemoKey × Ends)
  pub leavings : List Leaving

-- what is kept for a key
abbrev pub kept_in : List (MemoKey × Ends) → MemoKey → Option Ends
kept_in entries key = lookup (same_key key) entries

-- the number of the leaving where the last instruction jumps or does not, if it was made
abbrev pub number_in : Ends → Bool → Option ℕ
number_in ends true = ends.jumped
number_in ends false = ends.behind

-- the key of a node's block and of the vector at a place
pub record IsKeyOf (u : Unfolded) (node place : ℕ) (key : MemoKey) : Type 0 where
  pub at : UNode
  pub stands : slice_get u.nodes node ≡ Some at
  pub is : key ≡ record { function = at.function; block = at.block; place = place }

-- the number that was made, if one was, stands for what a block hands on
pub record AreNumbered (nodes : List Node) (leavings : List Leaving) (m : Machine) (from : List ℕ) (block : Block) (taken : Bool) (made : Option ℕ) : Type 0 where
  pub each : (number : ℕ) → made ≡ Some number → IsLeavingAt nodes leavings m from block taken number

-- a number was made
pub record HasNumber (ends : Ends) (taken : Bool) : Type 0 where
  pub number : ℕ
  pub is : number_in ends taken ≡ Some number

-- what is kept are the ends of a block from a vector: its finish, and what edges hand on, where that was made
pub record AreEndsOf (nodes : List Node) (leavings : List Leaving) (m : Machine) (from : List ℕ) (block : Block) (ends : Ends) : Type 0 where
  pub finish : IsFinishOf nodes m from block ends.finish
  pub leaving : (taken : Bool) → AreNumbered nodes leavings m from block taken (number_in ends taken)

-- an answer is that for a key: the ends of the key's block from the key's vector
pub record IsRight (nodes : List Node) (pool : List Vector) (m : Machine) (u : Unfolded) (leavings : List Leaving) (key : MemoKey) (ends : Ends) : Type 0 where
  pub function : Function
  pub block : Block
  pub from : Vector
  pub function_stands : slice_get u.program.functions key.function ≡ Some function
  pub block_stands : slice_get function.blocks key.block ≡ Some block
  pub from_stands : slice_get pool key.place ≡ Some from
  pub are : AreEndsOf nodes leavings m from.slots block ends

-- each kept answer is right
pub record AreEndsRight (nodes : List Node) (pool : List Vector) (m : Machine) (u : Unfolded) (memo : Memo) : Type 0 where
  pub each : (key : MemoKey) (ends : Ends) → kept_in memo.entries key ≡ Some ends → IsRight nodes pool m u memo.leavings key ends

-- the number of the leaving that is kept for a key, where the last instruction jumps or does not
pub record IsNumberIn (entries : List (MemoKey × Ends)) (key : MemoKey) (taken : Bool) (number : ℕ) : Type 0 where
  pub ends : Ends
  pub kept : kept_in entries key ≡ Some ends
  pub is : number_in ends taken ≡ Some number

-- the answer for a key is kept, and for others what was kept before
pub record IsAnswered (old new : List (MemoKey × Ends)) (key : MemoKey) (ends : Ends) : Type 0 where
  pub there : kept_in new key ≡ Some ends
  pub others : (other : MemoKey) → (other ≡ key → ⊥) → kept_in new other ≡ kept_in old other

-- some answer with a property is kept for a key, and for others what was kept before
pub record KeepsAnswer (old new : List (MemoKey × Ends)) (key : MemoKey) (Has : Ends → Type 0) : Type 0 where
  pub ends : Ends
  pub answered : IsAnswered old new key ends
  pub has : Has ends
