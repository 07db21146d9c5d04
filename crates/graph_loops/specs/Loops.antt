-- The loops of a graph, and the least vertex on a cycle of forward edges. This project's own.
use Rattle.std.specs.Prelude.{◌≡◌, ℕ, ◌↔◌, ◌⊎◌, ◌<◌, Bool, true, false, List, slice_index_or, All, AllPairs, Any, Contains, Option, MatchOption}
use Rattle.wx_base.specs.Facts.{AreAscending}
use Rattle.wx_base.specs.Paths.{IsHead, IsMember, IsOnForwardCycle}
use Rattle.graph_loops.specs.declared.loops.Loop.{Loop}
use Rattle.graph_loops.specs.Graph.{edges}

-- the loop of a head, with its members in ascending order
pub record IsLoop (lists : List (List ℕ)) (entry : ℕ) (loop : Loop) : Type 0 where
  pub head : IsHead (edges lists) entry loop.head
  pub ascending : AreAscending loop.members
  pub exact : (a : ℕ) → Contains loop.members a ↔ IsMember (edges lists) entry loop.head a

-- the loops of a graph in the order of their heads: each head has one
pub record AreLoops (lists : List (List ℕ)) (entry : ℕ) (loops : List Loop) : Type 0 where
  pub ascending : AllPairs (λ l m. l.head < m.head) loops
  pub each : All (λ l. IsLoop lists entry l) loops
  pub whole : (head : ℕ) → IsHead (edges lists) entry head → Any (λ l. l.head ≡ head) loops

-- a vertex is the head, or reached and marked
abbrev pub IsTaken : ℕ → List Bool → List Bool → ℕ → Type 0
IsTaken head marks body v = (v ≡ head) ⊎ ((slice_index_or marks v false ≡ true) × (slice_index_or body v false ≡ true))

-- such vertices below a bound, in ascending order
pub record AreTaken (head : ℕ) (marks body : List Bool) (bound : ℕ) (taken : List ℕ) : Type 0 where
  pub ascending : AreAscending taken
  pub exact : (v : ℕ) → Contains taken v ↔ ((v < bound) × IsTaken head marks body v)

-- no vertex is on a cycle of forward edges
pub record IsReducible (lists : List (List ℕ)) (entry : ℕ) : Type 0 where
  pub acyclic : (v : ℕ) → IsOnForwardCycle (edges lists) entry v → ⊥

-- the vertex is on a cycle of forward edges, and no smaller one is
pub record IsLeastOnCycle (lists : List (List ℕ)) (entry vertex : ℕ) : Type 0 where
  pub cyclic : IsOnForwardCycle (edges lists) entry vertex
  pub least : (v : ℕ) → v < vertex → IsOnForwardCycle (edges lists) entry v → ⊥

-- the least vertex on such a cycle, if there is one
abbrev pub IsLeastCycle : List (List ℕ) → ℕ → Option ℕ → Type 0
IsLeastCycle lists entry cycle = MatchOption cycle (IsReducible lists entry) (λ vertex. IsLeastOnCycle lists entry vertex)
