-- Cycles of a graph, and numbers that show that it has none. This project's own.
use Rattle.std.specs.Prelude.{ℕ, ◌<◌, List, [], slice_index, Contains}
use Rattle.graph_loops.specs.Graph.{edges, IsReached}

-- a vertex is reached from those that it leads to
abbrev pub IsCyclic : List (List ℕ) → ℕ → Type 0
IsCyclic lists v = IsReached lists [] (edges lists v) v

pub record IsAcyclic (lists : List (List ℕ)) : Type 0 where
  pub none : (v : ℕ) → IsCyclic lists v → ⊥

pub record IsLeastCyclic (lists : List (List ℕ)) (v : ℕ) : Type 0 where
  pub cyclic : IsCyclic lists v
  pub least : (u : ℕ) → u < v → IsCyclic lists u → ⊥

-- each of some vertices has a number above a bound
pub record AreAbove (targets numbers : List ℕ) (bound : ℕ) : Type 0 where
  pub each : (u : ℕ) → Contains targets u → bound < slice_index numbers u

-- each edge leads to a vertex of a higher number
pub record Rise (lists : List (List ℕ)) (numbers : List ℕ) : Type 0 where
  pub each : (v : ℕ) → AreAbove (edges lists v) numbers (slice_index numbers v)
