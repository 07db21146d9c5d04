use Rattle.std.proofs.Common.{ℕ, ◌<◌}
use Rattle.graph_loops.specs.Graph.{lists_of}
use Rattle.graph_loops.specs.Cycles.{IsCyclic}
use Rattle.graph_loops.proofs.cycles.first_cyclic.Given as goal

abbrev pub invariant-loop-vertex : goal.invariant-loop-vertex
invariant-loop-vertex l = (v : ℕ) → v < l.vertex → IsCyclic (lists_of l.lists) v → ⊥
