-- How the nodes that a node leads to are gathered. This project's own.
use Rattle.std.specs.Prelude.{◌≡◌, ◌<◌, ◌≤◌, ◌⊎◌, ℕ, Bool, true, false, List, [], ◌∷◌, ◌++◌, All, AllPairs, Any, Contains, IfOk, length, map, slice_get, Option, Some, None}
use Rattle.wx_base.specs.Facts.{AreAscending}
use Rattle.flow_block.specs.declared.block.Block.{Block}
use Rattle.flow_block.specs.Blocks.{most_insns}
use Rattle.flow_block.specs.Sites.{behind}
use Rattle.flow_graph.specs.declared.program.Function.{Function}
use Rattle.flow_graph.specs.declared.program.Program.{Program}
use Rattle.flow_ctx.specs.declared.place.Place.{Place}
use Rattle.flow_ctx.specs.declared.target.Target.{Target}
use Rattle.flow_ctx.specs.declared.unfolded.Call.{Call}
use Rattle.flow_ctx.specs.declared.unfolded.UNode.{UNode}
use Rattle.flow_ctx.specs.Nodes.{BeginsAt, IsBlockAt, IsStart, Leads, last_address}

-- the blocks of a function ascend, each with as many instructions as a block may have, and so do its loops
pub record IsFunctionInOrder (function : Function) : Type 0 where
  pub blocks : AllPairs (λ b c. b.start < c.start) function.blocks
  pub short : All (λ b. length b.insns ≤ most_insns) function.blocks
  pub loops : AllPairs (λ l m. l.head < m.head) function.loops
  pub members : All (λ l. AreAscending l.members) function.loops

-- the functions of a program ascend, and a block stands where its runs start
pub record IsInOrder (program : Program) : Type 0 where
  pub functions : AllPairs (λ f g. f.entry < g.entry) program.functions
  pub each : All (λ f. IsFunctionInOrder f) program.functions
  pub first : UNode
  pub starts : IsStart program first

-- the node that a place is
abbrev pub node_of : Place → UNode
node_of place = record { chain = place.chain.items; function = place.function; block = place.block }

-- the function that begins at an entry stands at this position
pub record IsFunctionNumber (program : Program) (entry number : ℕ) : Type 0 where
  pub function : Function
  pub stands : slice_get program.functions number ≡ Some function
  pub begins : function.entry ≡ entry

-- the block of a function that begins at an address stands at this position
pub record IsBlockNumber (function : Function) (start number : ℕ) : Type 0 where
  pub block : Block
  pub stands : slice_get function.blocks number ≡ Some block
  pub begins : block.start ≡ start

-- a node has a block
pub record HasBlockAt (program : Program) (node : UNode) : Type 0 where
  pub function : Function
  pub block : Block
  pub is : IsBlockAt program node function block

-- a place has a block
pub record HasPlace (program : Program) (place : Place) : Type 0 where
  pub function : Function
  pub block : Block
  pub is : IsBlockAt program (node_of place) function block

-- some of the targets lead to a node, taken or not
abbrev pub LeadTo : List Target → Bool → UNode → Type 0
LeadTo targets taken node = Any (λ t. (t.taken ≡ taken) × (node_of t.place ≡ node)) targets

-- behind the targets of before stand exactly those of some kind, taken or not
pub record Adds (Wanted : Bool → UNode → Type 0) (old new : List Target) : Type 0 where
  pub added : List Target
  pub is : new ≡ old ++ added
  pub each : All (λ t. Wanted t.taken (node_of t.place)) added
  pub whole : (taken : Bool) (node : UNode) → Wanted taken node → LeadTo added taken node

-- where a block begins at an address, in a chain
abbrev pub At : Program → List Call → ℕ → Bool → Bool → UNode → Type 0
At program chain address taken was node = (was ≡ taken) × BeginsAt program node chain address

-- where a block begins at one of some addresses
pub record AtSome (program : Program) (chain : List Call) (addresses : List ℕ) (was : Bool) (node : UNode) : Type 0 where
  pub address : ℕ
  pub listed : Contains addresses address
  pub taken : was ≡ true
  pub begins : BeginsAt program node chain address

-- where the block behind begins, if a block is left without a jump
pub record AtNext (program : Program) (chain : List Call) (block : Block) (was : Bool) (node : UNode) : Type 0 where
  pub address : ℕ
  pub next : block.next ≡ Some address
  pub untaken : was ≡ false
  pub begins : BeginsAt program node chain address

-- where one of some functions begins, called by a block
pub record AtCallee (program : Program) (chain : List Call) (site : ℕ) (entries : List ℕ) (was : Bool) (node : UNode) : Type 0 where
  pub entry : ℕ
  pub listed : Contains entries entry
  pub taken : was ≡ true
  pub begins : BeginsAt program node (chain ++ record { site = site; entry = entry } ∷ []) entry

-- where the block behind the last call of a chain begins, if a block returns
pub record AtReturn (program : Program) (chain : List Call) (block : Block) (was : Bool) (node : UNode) : Type 0 where
  pub callers : List Call
  pub last : Call
  pub ret : block.ret ≡ true
  pub after : chain ≡ callers ++ last ∷ []
  pub taken : was ≡ true
  pub begins : BeginsAt program node callers (behind last.site 1)

-- all that a node leads to
pub record AreTargets (program : Program) (from : UNode) (targets : List Target) : Type 0 where
  pub each : All (λ t. Leads program from t.taken (node_of t.place)) targets
  pub whole : (taken : Bool) (to : UNode) → Leads program from taken to → LeadTo targets taken to
