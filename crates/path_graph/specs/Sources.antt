-- The arcs of a graph by the vertex that they leave. This project's own.
use Rattle.std.specs.Prelude.{◌≡◌, ℕ, ◌<◌, List, length, slice_index_or, Option, None, MatchOption}
use Rattle.std.specs.List.{All, Contains}
use Rattle.path_graph.specs.declared.graph.Graph.{Graph}
use Rattle.path_graph.specs.Graph.{arc_at}

-- each arc leaves a vertex
pub record AreSources (g : Graph) : Type 0 where
  pub each : (a : ℕ) → a < length g.arcs → (arc_at g a).from < length g.finish

-- no arc below a number leaves a vertex
pub record NoneFrom (g : Graph) (v end : ℕ) : Type 0 where
  pub none : (a : ℕ) → a < end → (arc_at g a).from ≡ v → ⊥

-- the last arc below a number that leaves a vertex
pub record IsLastFrom (g : Graph) (v end a : ℕ) : Type 0 where
  pub below : a < end
  pub from : (arc_at g a).from ≡ v
  pub last : (b : ℕ) → a < b → b < end → (arc_at g b).from ≡ v → ⊥

-- the last arc below a number that leaves a vertex, if there is one
abbrev pub LastFrom : Graph → ℕ → ℕ → Option ℕ → Type 0
LastFrom g v end o = MatchOption o (NoneFrom g v end) (IsLastFrom g v end)

-- for each vertex its last arc below a number, and for each arc below it the one before it from the same vertex
pub record AreArcsBelow (g : Graph) (end : ℕ) (last previous : List (Option ℕ)) : Type 0 where
  pub last_count : length last ≡ length g.finish
  pub previous_count : length previous ≡ length g.arcs
  pub vertices : (v : ℕ) → v < length g.finish → LastFrom g v end (slice_index_or last v None)
  pub arcs : (a : ℕ) → a < end → LastFrom g (arc_at g a).from a (slice_index_or previous a None)

-- for each vertex its last arc, and for each arc the one before it from the same vertex
abbrev pub AreArcsFrom : Graph → List (Option ℕ) → List (Option ℕ) → Type 0
AreArcsFrom g last previous = AreArcsBelow g (length g.arcs) last previous

-- all arcs of some vertices are listed
pub record HasArcsOf (g : Graph) (vertices arcs : List ℕ) : Type 0 where
  pub each : (a : ℕ) → a < length g.arcs → Contains vertices (arc_at g a).from → Contains arcs a

-- the arcs of a vertex came to others
pub record AreAdded (g : Graph) (v : ℕ) (old new : List ℕ) : Type 0 where
  pub keeps : (a : ℕ) → Contains old a → Contains new a
  pub each : (a : ℕ) → a < length g.arcs → (arc_at g a).from ≡ v → Contains new a
  pub within : All (λ a. a < length g.arcs) old → All (λ a. a < length g.arcs) new

-- the same vertices are listed
pub record AreSame (vertices others : List ℕ) : Type 0 where
  pub there : (v : ℕ) → Contains vertices v → Contains others v
  pub back : (v : ℕ) → Contains others v → Contains vertices v
