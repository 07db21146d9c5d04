-- The vertices of the graph of an unfolding: pairs of a node and a vector of it, numbered node by node and vector by vector.
-- This project's own.
use Rattle.std.specs.Prelude.{◌≡◌, ℕ, ◌+◌, List, [], ◌∷◌, ◌++◌, map, length, take, slice_get, Some, sum_by}
use Rattle.pipe_time.specs.declared.vector.Vector.{Vector}

-- a node, by its number, and a vector of it
pub record Pair : Type 0 where
  pub node : ℕ
  pub vector : Vector

-- the pairs of a node
abbrev pub pairs_of : ℕ → List Vector → List Pair
pairs_of node family = map (λ v. record { node = node; vector = v }) family

-- the pairs of some nodes, which are numbered on from a number
abbrev pub pairs_from : ℕ → List (List Vector) → List Pair
pairs_from node [] = []
pairs_from node (family ∷ families) = pairs_of node family ++ pairs_from (node + 1) families

-- all pairs in their order: the number of a vertex is the position of its pair
abbrev pub pairs : List (List Vector) → List Pair
pairs vectors = pairs_from 0 vectors

-- the vertex with a number is that of a node and a vector
abbrev pub IsVertex : List (List Vector) → ℕ → ℕ → Vector → Type 0
IsVertex vectors number node v = slice_get (pairs vectors) number ≡ Some (record { node = node; vector = v })

-- the number of the first vertex of a node, if it has vectors: how many vectors the nodes before it have
abbrev pub first_vertex : List (List Vector) → ℕ → ℕ
first_vertex vectors node = sum_by length (take node vectors)
