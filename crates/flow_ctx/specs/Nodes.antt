-- What runs of a program come to: blocks in their chains of calls, and how one leads to another. This project's own.
use Rattle.std.specs.Prelude.{◌≡◌, ℕ, Bool, true, false, List, [], ◌∷◌, ◌++◌, length, Contains, slice_get, Some}
use Rattle.flow_block.specs.declared.block.Block.{Block}
use Rattle.flow_block.specs.Blocks.{last_of_block}
use Rattle.flow_block.specs.Sites.{behind}
use Rattle.flow_graph.specs.declared.program.Function.{Function}
use Rattle.flow_graph.specs.declared.program.Program.{Program}
use Rattle.flow_ctx.specs.declared.unfolded.Call.{Call}
use Rattle.flow_ctx.specs.declared.unfolded.UNode.{UNode}
use Rattle.flow_ctx.specs.declared.unfolded.Unfolded.{Unfolded}

-- the entry of the function that the last of some open calls called, which is a first one where no call is open
abbrev pub entry_after : ℕ → List Call → ℕ
entry_after first [] = first
entry_after first (call ∷ chain) = entry_after call.entry chain

-- the address of a block's last instruction
abbrev pub last_address : Block → ℕ
last_address block = last_of_block block.start (length block.insns)

-- a node is a block of a function of the program, the one that the last call of its chain called
pub record IsBlockAt (program : Program) (node : UNode) (function : Function) (block : Block) : Type 0 where
  pub function_stands : slice_get program.functions node.function ≡ Some function
  pub entry : function.entry ≡ entry_after program.start node.chain
  pub block_stands : slice_get function.blocks node.block ≡ Some block

-- a node has this chain, and its block begins at this address
pub record BeginsAt (program : Program) (node : UNode) (chain : List Call) (address : ℕ) : Type 0 where
  pub has : node.chain ≡ chain
  pub function : Function
  pub block : Block
  pub is : IsBlockAt program node function block
  pub start : block.start ≡ address

-- A node leads to another: to the block behind it, without a jump; or, taken, to a target of its jumps, to the entry of a
-- function that it calls, with the chain longer by this call, or by a return to the block behind the last call of its chain, with
-- the chain shorter by that call.
pub data Leads (program : Program) (from : UNode) : Bool → UNode → Type 0 where
  next : (function : Function) (block : Block) (address : ℕ) (to : UNode) → IsBlockAt program from function block
      → block.next ≡ Some address → BeginsAt program to from.chain address → Leads program from false to
  jump : (function : Function) (block : Block) (address : ℕ) (to : UNode) → IsBlockAt program from function block
      → Contains block.jumps address → BeginsAt program to from.chain address → Leads program from true to
  call : (function : Function) (block : Block) (entry : ℕ) (to : UNode) → IsBlockAt program from function block
      → Contains block.calls entry
      → BeginsAt program to (from.chain ++ record { site = last_address block; entry = entry } ∷ []) entry
      → Leads program from true to
  ret : (function : Function) (block : Block) (callers : List Call) (last : Call) (to : UNode)
      → IsBlockAt program from function block → block.ret ≡ true → from.chain ≡ callers ++ last ∷ []
      → BeginsAt program to callers (behind last.site 1) → Leads program from true to

-- a node is where runs start: no call is open, and its block begins at the program's start
abbrev pub IsStart : Program → UNode → Type 0
IsStart program node = BeginsAt program node [] program.start

-- a node is reached if nodes lead to it from the start, one behind the other
pub data IsReached (program : Program) : UNode → Type 0 where
  start : (node : UNode) → IsStart program node → IsReached program node
  along : (from : UNode) (taken : Bool) (to : UNode) → IsReached program from → Leads program from taken to
      → IsReached program to

-- the number is that of a node, whose function and block the program has
pub record HasBlock (u : Unfolded) (number : ℕ) : Type 0 where
  pub node : UNode
  pub function : Function
  pub block : Block
  pub stands : slice_get u.nodes number ≡ Some node
  pub function_stands : slice_get u.program.functions node.function ≡ Some function
  pub block_stands : slice_get function.blocks node.block ≡ Some block

-- it is the block of the node with this number
pub record IsBlockOf (u : Unfolded) (number : ℕ) (block : Block) : Type 0 where
  pub node : UNode
  pub function : Function
  pub stands : slice_get u.nodes number ≡ Some node
  pub function_stands : slice_get u.program.functions node.function ≡ Some function
  pub block_stands : slice_get function.blocks node.block ≡ Some block
