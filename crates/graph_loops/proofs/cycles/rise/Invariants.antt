use Rattle.std.proofs.Common.{ℕ, ◌<◌, get_or}
use Rattle.graph_loops.specs.Graph.{lists_of, edges}
use Rattle.graph_loops.specs.Cycles.{AreAbove}
use Rattle.graph_loops.proofs.cycles.rise.Given as goal

abbrev pub invariant-loop-v : goal.invariant-loop-v
invariant-loop-v l = (v : ℕ) → v < l.v → AreAbove (edges (lists_of l.lists) v) l.numbers (get_or l.numbers v 0)
