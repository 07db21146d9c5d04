-- How a walk over a graph goes on, and a graph turned round. This project's own.
use Rattle.std.specs.Prelude.{◌≡◌, ℕ, ◌↔◌, ◌⊎◌, Bool, false, List, ◌++◌, length, slice_index_or, Contains, Decides}
use Rattle.graph_loops.specs.Graph.{edges}

-- the marks tell which numbers are in the list
pub record AreMarked (marks : List Bool) (queue : List ℕ) : Type 0 where
  pub exact : (v : ℕ) → Decides (slice_index_or marks v false) (Contains queue v)

-- Some vertices are come to: behind those of before stand only such as are among them and not avoided, and each of these is there
-- now.
pub record CameTo (before after avoided vertices : List ℕ) : Type 0 where
  pub more : List ℕ
  pub grown : after ≡ before ++ more
  pub only : (v : ℕ) → Contains more v → Contains vertices v
  pub free : (v : ℕ) → Contains more v → Contains avoided v → ⊥
  pub each : (v : ℕ) → Contains vertices v → (Contains avoided v → ⊥) → Contains after v

-- each list has the vertices that lead to its vertex
pub record AreSources (lists sources : List (List ℕ)) : Type 0 where
  pub count : length sources ≡ length lists
  pub exact : (u v : ℕ) → Contains (edges sources v) u ↔ Contains (edges lists u) v

-- a vertex is put among the sources of each of some targets
pub record IsSourceAdded (before after : List (List ℕ)) (source : ℕ) (targets : List ℕ) : Type 0 where
  pub count : length after ≡ length before
  pub exact : (u v : ℕ) → Contains (edges after v) u ↔ (Contains (edges before v) u ⊎ ((u ≡ source) × Contains targets v))
