-- A graph as a list for each vertex, of those that it leads to, and what is reached in it. The vertices are the places of the
-- lists. This project's own.
use Rattle.std.specs.Prelude.{◌≡◌, ℕ, ◌<◌, Bool, false, List, [], map, length, slice_index_or, Contains, Decides}
use Rattle.std.specs.Global.{Vec}
use Rattle.wx_base.specs.Paths.{Path}

-- the numbers in each list
abbrev pub lists_of : List (Vec ℕ) → List (List ℕ)
lists_of lists = map (λ list. list.items) lists

-- what a vertex leads to; nothing, where there is no such vertex
abbrev pub edges : List (List ℕ) → ℕ → List ℕ
edges lists v = slice_index_or lists v []

-- each number in the lists is a vertex
pub record IsGraph (lists : List (List ℕ)) : Type 0 where
  pub within : (u v : ℕ) → Contains (edges lists u) v → v < length lists

-- each number is a vertex of a graph with so many
pub record AreVertices (count : ℕ) (vertices : List ℕ) : Type 0 where
  pub within : (v : ℕ) → Contains vertices v → v < count

-- a path without those avoided leads from one of some roots to a vertex
pub record IsReached (lists : List (List ℕ)) (avoided roots : List ℕ) (v : ℕ) : Type 0 where
  pub root : ℕ
  pub listed : Contains roots root
  pub path : Path (edges lists) avoided root v

-- the marks, one for each vertex, tell which are reached
pub record AreReached (lists : List (List ℕ)) (avoided roots : List ℕ) (marks : List Bool) : Type 0 where
  pub count : length marks ≡ length lists
  pub exact : (v : ℕ) → Decides (slice_index_or marks v false) (IsReached lists avoided roots v)
