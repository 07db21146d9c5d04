-- The unfolding of a program by call chains: its nodes, edges and loops with their numbers. This project's own.
use Rattle.std.specs.Prelude.{◌≡◌, ◌↔◌, ◌<◌, ℕ, List, ◌∷◌, ◌++◌, All, AllPairs, Any, Contains, length, slice_get, Some}
use Rattle.wx_base.specs.Facts.{AreAscending}
use Rattle.flow_block.specs.declared.block.Block.{Block}
use Rattle.flow_graph.specs.declared.program.Function.{Function}
use Rattle.flow_graph.specs.declared.program.LoopInfo.{LoopInfo}
use Rattle.flow_graph.specs.declared.program.Program.{Program}
use Rattle.flow_ctx.specs.declared.unfolded.Call.{Call}
use Rattle.flow_ctx.specs.declared.unfolded.Edge.{Edge}
use Rattle.flow_ctx.specs.declared.unfolded.ULoop.{ULoop}
use Rattle.flow_ctx.specs.declared.unfolded.UNode.{UNode}
use Rattle.flow_ctx.specs.declared.unfolded.Unfolded.{Unfolded}
use Rattle.flow_ctx.specs.Nodes.{IsBlockAt, IsReached, IsStart, Leads}
use Rattle.flow_ctx.specs.Order.{IsEdgeBefore, IsNodeBefore}

-- the nodes that are reached, in their order; a node's number is its place
pub record AreNodes (program : Program) (nodes : List UNode) : Type 0 where
  pub ascending : AllPairs IsNodeBefore nodes
  pub reached : All (λ n. IsReached program n) nodes
  pub whole : (node : UNode) → IsReached program node → Contains nodes node

-- the number is that of the node where runs start
pub record IsStartNumber (program : Program) (nodes : List UNode) (number : ℕ) : Type 0 where
  pub node : UNode
  pub stands : slice_get nodes number ≡ Some node
  pub starts : IsStart program node

-- an edge leads from one of the nodes to another
pub record IsEdge (program : Program) (nodes : List UNode) (edge : Edge) : Type 0 where
  pub source : UNode
  pub target : UNode
  pub from : slice_get nodes edge.from ≡ Some source
  pub to : slice_get nodes edge.to ≡ Some target
  pub leads : Leads program source edge.taken target

-- all edges between the nodes, in their order
pub record AreEdges (program : Program) (nodes : List UNode) (edges : List Edge) : Type 0 where
  pub ascending : AllPairs IsEdgeBefore edges
  pub each : All (λ e. IsEdge program nodes e) edges
  pub whole : (edge : Edge) → IsEdge program nodes edge → Contains edges edge

-- the node's block begins at the head of a loop of its function
pub record IsHeadOf (program : Program) (node : UNode) (info : LoopInfo) : Type 0 where
  pub function : Function
  pub block : Block
  pub is : IsBlockAt program node function block
  pub listed : Contains function.loops info
  pub head : block.start ≡ info.head

-- A node belongs to the loop with a head's node: it has the head's chain, and its block begins at an address of the loop; or its
-- chain goes on from the head's by a call at such an address.
pub data IsMember (program : Program) (head : UNode) (info : LoopInfo) (node : UNode) : Type 0 where
  own : (function : Function) (block : Block) → IsBlockAt program node function block → node.chain ≡ head.chain
      → Contains info.members block.start → IsMember program head info node
  within : (call : Call) (calls : List Call) → node.chain ≡ head.chain ++ call ∷ calls → Contains info.members call.site
      → IsMember program head info node

-- the same of the node with a number
pub record IsMemberNumber (program : Program) (nodes : List UNode) (head : UNode) (info : LoopInfo) (number : ℕ) : Type 0 where
  pub node : UNode
  pub stands : slice_get nodes number ≡ Some node
  pub member : IsMember program head info node

-- an edge into a head, from a member of the loop
pub record IsBackEdge (edges : List Edge) (head : ℕ) (members : List ℕ) (number : ℕ) : Type 0 where
  pub edge : Edge
  pub stands : slice_get edges number ≡ Some edge
  pub into : edge.to ≡ head
  pub inside : Contains members edge.from

-- an edge into a head, from elsewhere
pub record IsEntryEdge (edges : List Edge) (head : ℕ) (members : List ℕ) (number : ℕ) : Type 0 where
  pub edge : Edge
  pub stands : slice_get edges number ≡ Some edge
  pub into : edge.to ≡ head
  pub outside : Contains members edge.from → ⊥

-- The loop with a head's node: the numbers of its members, of its back edges and of the edges that enter it, ascending, and the
-- bounds of the function's loop.
pub record IsLoop (program : Program) (nodes : List UNode) (edges : List Edge) (l : ULoop) : Type 0 where
  pub node : UNode
  pub info : LoopInfo
  pub stands : slice_get nodes l.head ≡ Some node
  pub head : IsHeadOf program node info
  pub members_ascend : AreAscending l.members
  pub members : (number : ℕ) → Contains l.members number ↔ IsMemberNumber program nodes node info number
  pub back_ascends : AreAscending l.back
  pub back : (number : ℕ) → Contains l.back number ↔ IsBackEdge edges l.head l.members number
  pub entries_ascend : AreAscending l.entries
  pub entries : (number : ℕ) → Contains l.entries number ↔ IsEntryEdge edges l.head l.members number
  pub maxcount : l.maxcount ≡ info.maxcount
  pub totalcount : l.totalcount ≡ info.totalcount

-- the number is that of a node whose block begins at a head
pub record IsHeadNumber (program : Program) (nodes : List UNode) (number : ℕ) : Type 0 where
  pub node : UNode
  pub info : LoopInfo
  pub stands : slice_get nodes number ≡ Some node
  pub head : IsHeadOf program node info

-- All loops, each with one number. They stand in the order of their heads' numbers, which is that of chains and addresses.
pub record AreLoops (program : Program) (nodes : List UNode) (edges : List Edge) (loops : List ULoop) : Type 0 where
  pub ascending : AllPairs (λ l m. l.head < m.head) loops
  pub each : All (λ l. IsLoop program nodes edges l) loops
  pub whole : (number : ℕ) → IsHeadNumber program nodes number → Any (λ l. l.head ≡ number) loops

-- the unfolding of a program
pub record IsUnfolding (program : Program) (u : Unfolded) : Type 0 where
  pub kept : u.program ≡ program
  pub nodes : AreNodes program u.nodes
  pub start : IsStartNumber program u.nodes u.start
  pub edges : AreEdges program u.nodes u.edges
  pub loops : AreLoops program u.nodes u.edges u.loops

-- the greatest number of nodes
abbrev pub most_nodes : ℕ
most_nodes = 4096

-- a program has more nodes than that: as many different ones are reached
pub record HasTooManyNodes (program : Program) : Type 0 where
  pub nodes : List UNode
  pub many : most_nodes < length nodes
  pub different : AllPairs (λ n m. n ≡ m → ⊥) nodes
  pub reached : All (λ n. IsReached program n) nodes
