-- Laws of loops. The first ones speak of every graph, told by what each vertex leads to. This project's own.
use Rattle.std.specs.Prelude.{◌≡◌, ℕ, ◌↔◌, ◌⊎◌, List, [], ◌∷◌, Contains}
use Rattle.wx_base.specs.declared.facts.Facts.{Facts}
use Rattle.wx_base.specs.declared.image.Image.{Image}
use Rattle.wx_base.specs.Functions as functions
use Rattle.wx_base.specs.Monitor.{BoundedLoop}
use Rattle.wx_base.specs.Paths.{Path, IsBackEdge, IsHead, IsMember, IsForward, IsOnForwardCycle}
use Rattle.graph_loops.specs.declared.loops.Loop.{Loop}
use Rattle.graph_loops.specs.Graph.{edges}
use Rattle.graph_loops.specs.Loops.{AreLoops, IsReducible}

-- an edge into a head is a back edge exactly if it comes from a member of the head's loop
abbrev pub BackEdgesComeFromMembers : Type 0
BackEdgesComeFromMembers = (leads : ℕ → List ℕ) (entry head a : ℕ) → IsHead leads entry head → Contains (leads a) head
    → IsBackEdge leads entry a head ↔ IsMember leads entry head a

-- each path from the entry to a member of a loop has the head on it
abbrev pub HeadsAreOnPaths : Type 0
HeadsAreOnPaths = (leads : ℕ → List ℕ) (entry head a : ℕ) → IsMember leads entry head a → Path leads (head ∷ []) entry a → ⊥

-- an edge into a loop, from a vertex that is reached and no member, leads to the head
abbrev pub LoopsAreEnteredAtHeads : Type 0
LoopsAreEnteredAtHeads = (leads : ℕ → List ℕ) (entry head a b : ℕ) → Path leads [] entry a → (IsMember leads entry head a → ⊥)
    → IsMember leads entry head b → Contains (leads a) b → b ≡ head

-- a path into a loop, from a vertex that is reached and no member, has the head on it
abbrev pub WaysInHaveHeads : Type 0
WaysInHaveHeads = (leads : ℕ → List ℕ) (entry head a b : ℕ) → Path leads [] entry a → (IsMember leads entry head a → ⊥)
    → IsMember leads entry head b → Path leads (head ∷ []) a b → ⊥

-- along an edge that is the only one of its vertex, and leads to another vertex than the head, membership stays as it is
abbrev pub SingleEdgesKeepMembership : Type 0
SingleEdgesKeepMembership = (leads : ℕ → List ℕ) (entry head a b : ℕ) → IsHead leads entry head → Path leads [] entry a
    → Contains (leads a) b → ((c : ℕ) → Contains (leads a) c → c ≡ b) → (b ≡ head → ⊥)
    → IsMember leads entry head a ↔ IsMember leads entry head b

-- another edge than those back to it leads to a head that is not the entry, from a vertex that is reached without the head
pub record IsEntered (leads : ℕ → List ℕ) (entry head : ℕ) : Type 0 where
  pub source : ℕ
  pub path : Path leads (head ∷ []) entry source
  pub edge : Contains (leads source) head

-- each head is the entry or is entered so
abbrev pub HeadsAreEntered : Type 0
HeadsAreEntered = (leads : ℕ → List ℕ) (entry head : ℕ) → IsHead leads entry head → (head ≡ entry) ⊎ IsEntered leads entry head

-- each member of one loop is a member of the other
pub record IsInLoop (leads : ℕ → List ℕ) (entry inner outer : ℕ) : Type 0 where
  pub members : (a : ℕ) → IsMember leads entry inner a → IsMember leads entry outer a

-- two loops that share a vertex are nested
abbrev pub LoopsAreNested : Type 0
LoopsAreNested = (leads : ℕ → List ℕ) (entry g h a : ℕ) → IsHead leads entry g → IsHead leads entry h
    → IsMember leads entry g a → IsMember leads entry h a → IsInLoop leads entry g h ⊎ IsInLoop leads entry h g

-- A walk from a vertex through those of a list, in their order, to a last one: each leads to the next. It is closed if the
-- last is the first.
abbrev pub IsWalk : (ℕ → List ℕ) → ℕ → List ℕ → ℕ → Type 0
IsWalk leads from [] to = Contains (leads from) to
IsWalk leads from (v ∷ through) to = Contains (leads from) v × IsWalk leads v through to

-- some of the vertices is a head, and all of them are members of its loop
pub record LieInLoop (leads : ℕ → List ℕ) (entry : ℕ) (vertices : List ℕ) : Type 0 where
  pub head : ℕ
  pub among : Contains vertices head
  pub is_head : IsHead leads entry head
  pub members : (a : ℕ) → Contains vertices a → IsMember leads entry head a

-- each edge from a vertex that is reached is a back edge or a forward edge: which of the two can be told
pub record EdgesAreTold (leads : ℕ → List ℕ) (entry : ℕ) : Type 0 where
  pub each : (a b : ℕ) → Path leads [] entry a → Contains (leads a) b → IsBackEdge leads entry a b ⊎ IsForward leads entry a b

-- Where no vertex is on a cycle of forward edges, and it can be told which edges are back edges, each closed walk of vertices
-- that are reached lies in the loop of a head on it.
abbrev pub ClosedWalksLieInLoops : Type 0
ClosedWalksLieInLoops = (leads : ℕ → List ℕ) (entry v : ℕ) (through : List ℕ) → EdgesAreTold leads entry
    → ((u : ℕ) → IsOnForwardCycle leads entry u → ⊥) → Path leads [] entry v → IsWalk leads v through v
    → LieInLoop leads entry (v ∷ through)

-- it can be told in a graph of lists whose loops are listed
abbrev pub LoopsTellEdges : Type 0
LoopsTellEdges = (lists : List (List ℕ)) (entry : ℕ) (loops : List Loop) → AreLoops lists entry loops → EdgesAreTold (edges lists) entry

-- and of the ways of a function whose loops are listed
abbrev pub LoopsTellWays : Type 0
LoopsTellWays = (image : Image) (facts : Facts) (entry : ℕ) (loops : List BoundedLoop) → functions.AreLoops image facts entry loops
    → EdgesAreTold (functions.ways_at image facts) entry

-- where no vertex is on a cycle of forward edges, no way leads from a vertex reached back to it without the heads
abbrev pub HeadsCutCycles : Type 0
HeadsCutCycles = (lists : List (List ℕ)) (entry : ℕ) (heads : List ℕ) → IsReducible lists entry
    → ((head : ℕ) → IsHead (edges lists) entry head → Contains heads head)
    → (v w : ℕ) → Path (edges lists) [] entry v → Contains (edges lists v) w → Path (edges lists) heads w v → ⊥
