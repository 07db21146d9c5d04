-- Laws of the loops of an unfolding, such as a graph of its nodes and edges needs them. This project's own.
use Rattle.std.specs.Prelude.{◌≡◌, ◌<◌, ◌≤◌, ℕ, List, ◌∷◌, All, Contains, length, slice_get, Some}
use Rattle.wx_base.specs.declared.facts.Facts.{Facts}
use Rattle.wx_base.specs.declared.image.Image.{Image}
use Rattle.wx_base.specs.declared.machine.Machine.{Machine}
use Rattle.flow_graph.specs.declared.program.Program.{Program}
use Rattle.flow_graph.specs.Program.{IsProgram}
use Rattle.flow_graph.specs.Refusals.{IsSoundProgram}
use Rattle.flow_laws.specs.Programs.{EndsInMemory}
use Rattle.flow_ctx.specs.declared.unfolded.Edge.{Edge}
use Rattle.flow_ctx.specs.declared.unfolded.ULoop.{ULoop}
use Rattle.flow_ctx.specs.declared.unfolded.Unfolded.{Unfolded}
use Rattle.flow_ctx.specs.Unfolding.{IsUnfolding}
use Rattle.loop_laws.specs.Walks.{IsWalkFrom, LiesInLoop}

-- ---- nesting

-- each member of one loop is a member of the other
pub record IsWithin (inner outer : ULoop) : Type 0 where
  pub members : (node : ℕ) → Contains inner.members node → Contains outer.members node

-- Of two loops that share a member, one that has no more members than the other is within it. So where loops are
-- ordered by how many members they have, and in any way among those that have as many, each earlier loop is within
-- each later one that it shares a member with.
abbrev pub SmallerLoopsAreWithin : Type 0
SmallerLoopsAreWithin = (image : Image) (facts : Facts) (entry : ℕ) (machine : Machine) (program : Program)
    (u : Unfolded) (l m : ULoop) (node : ℕ) → IsProgram image facts entry machine program → IsUnfolding program u
    → Contains u.loops l → Contains u.loops m → Contains l.members node → Contains m.members node
    → length l.members ≤ length m.members → IsWithin l m

-- two loops that share a member and have as many members as each other are one
abbrev pub LoopsOfOneSizeAreOne : Type 0
LoopsOfOneSizeAreOne = (image : Image) (facts : Facts) (entry : ℕ) (machine : Machine) (program : Program)
    (u : Unfolded) (l m : ULoop) (node : ℕ) → IsProgram image facts entry machine program → IsUnfolding program u
    → Contains u.loops l → Contains u.loops m → Contains l.members node → Contains m.members node
    → length l.members ≡ length m.members → l ≡ m

-- ---- closed walks

-- each closed walk with at least one edge lies in a loop
abbrev pub ClosedWalksLieInALoop : Type 0
ClosedWalksLieInALoop = (image : Image) (facts : Facts) (entry : ℕ) (machine : Machine) (program : Program)
    (u : Unfolded) (node number : ℕ) (walk : List ℕ) → EndsInMemory image
    → IsSoundProgram image facts entry machine program → IsUnfolding program u
    → IsWalkFrom u node (number ∷ walk) node → LiesInLoop u (number ∷ walk)

-- ---- edges

-- edges lead from nodes to nodes, and runs start at one
pub record IsOverNodes (u : Unfolded) : Type 0 where
  pub start : u.start < length u.nodes
  pub sources : All (λ e. e.from < length u.nodes) u.edges
  pub targets : All (λ e. e.to < length u.nodes) u.edges

abbrev pub UnfoldingsAreOverNodes : Type 0
UnfoldingsAreOverNodes = (program : Program) (u : Unfolded) → IsUnfolding program u → IsOverNodes u

-- The numbers in a loop are those of nodes and edges, the head is a member, and back edges and entries lead into the
-- head: back edges from members, entries from elsewhere.
pub record HasEdges (u : Unfolded) (l : ULoop) : Type 0 where
  pub head : Contains l.members l.head
  pub members : All (λ node. node < length u.nodes) l.members
  pub back : All (λ number. number < length u.edges) l.back
  pub entries : All (λ number. number < length u.edges) l.entries
  pub back_from : (number : ℕ) (edge : Edge) → Contains l.back number → slice_get u.edges number ≡ Some edge
      → Contains l.members edge.from
  pub back_to : (number : ℕ) (edge : Edge) → Contains l.back number → slice_get u.edges number ≡ Some edge
      → edge.to ≡ l.head
  pub entered_from : (number : ℕ) (edge : Edge) → Contains l.entries number → slice_get u.edges number ≡ Some edge
      → Contains l.members edge.from → ⊥
  pub entered_to : (number : ℕ) (edge : Edge) → Contains l.entries number → slice_get u.edges number ≡ Some edge
      → edge.to ≡ l.head

abbrev pub LoopsHaveEdges : Type 0
LoopsHaveEdges = (image : Image) (facts : Facts) (entry : ℕ) (machine : Machine) (program : Program)
    (u : Unfolded) (l : ULoop) → IsProgram image facts entry machine program → IsUnfolding program u
    → Contains u.loops l → HasEdges u l

-- two loops with one head are one: they have the same place among the loops
abbrev pub HeadsDiffer : Type 0
HeadsDiffer = (program : Program) (u : Unfolded) (i j : ℕ) (l m : ULoop) → IsUnfolding program u
    → slice_get u.loops i ≡ Some l → slice_get u.loops j ≡ Some m → l.head ≡ m.head → i ≡ j

-- and an edge is a back edge of one loop at most
abbrev pub BackEdgesAreOfOneLoop : Type 0
BackEdgesAreOfOneLoop = (program : Program) (u : Unfolded) (i j number : ℕ) (l m : ULoop) → IsUnfolding program u
    → slice_get u.loops i ≡ Some l → slice_get u.loops j ≡ Some m → Contains l.back number → Contains m.back number
    → i ≡ j
