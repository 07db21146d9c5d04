-- How the numbers of members and edges of a loop are gathered. This project's own.
use Rattle.std.specs.Prelude.{◌≡◌, ◌<◌, ◌↔◌, ℕ, Bool, List, AllPairs, All, Any, Contains, MatchBool, slice_get, Some}
use Rattle.wx_base.specs.Facts.{AreAscending}
use Rattle.flow_graph.specs.declared.program.Program.{Program}
use Rattle.flow_ctx.specs.declared.unfolded.Edge.{Edge}
use Rattle.flow_ctx.specs.declared.unfolded.ULoop.{ULoop}
use Rattle.flow_ctx.specs.declared.unfolded.UNode.{UNode}
use Rattle.flow_ctx.specs.Unfolding.{IsHeadNumber, IsLoop}

-- exactly the numbers of which something holds, ascending
pub record AreChosen (P : ℕ → Type 0) (list : List ℕ) : Type 0 where
  pub ascending : AreAscending list
  pub exact : (n : ℕ) → Contains list n ↔ P n

-- an edge leads into a head, from a member or from elsewhere
abbrev pub LeadsInto : ℕ → List ℕ → Bool → Edge → Type 0
LeadsInto head members inside edge = (edge.to ≡ head) × MatchBool inside (Contains members edge.from) (Contains members edge.from → ⊥)

-- the same of the edge with a number
pub record LeadsIntoAt (edges : List Edge) (head : ℕ) (members : List ℕ) (inside : Bool) (number : ℕ) : Type 0 where
  pub edge : Edge
  pub stands : slice_get edges number ≡ Some edge
  pub leads : LeadsInto head members inside edge

-- the greatest number of edges between as many nodes as there may be
abbrev pub most_edges : ℕ
most_edges = 33554432

-- the loops of the first so many nodes
pub record AreLoopsTo (program : Program) (nodes : List UNode) (edges : List Edge) (count : ℕ) (loops : List ULoop) : Type 0 where
  pub ascending : AllPairs (λ l m. l.head < m.head) loops
  pub each : All (λ l. IsLoop program nodes edges l) loops
  pub below : All (λ l. l.head < count) loops
  pub whole : (number : ℕ) → number < count → IsHeadNumber program nodes number → Any (λ l. l.head ≡ number) loops
