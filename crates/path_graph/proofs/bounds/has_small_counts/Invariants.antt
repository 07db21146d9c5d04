use Rattle.std.proofs.Common.{ℕ, ◌^◌, ◌<◌, ◌≤◌, get_or}
use Rattle.std.specs.Prelude.{pos, ◌≤ℤ◌}
use Rattle.path_graph.specs.declared.graph.TheConstants.{LARGEST}
use Rattle.path_graph.specs.Conditions.{IsWithin}
use Rattle.path_graph.specs.Graph.{arc_at, loop_at, finish_at}
use Rattle.path_graph.proofs.bounds.has_small_counts.Given as goal

abbrev pub invariant-loop-arcs : goal.invariant-loop-arcs
invariant-loop-arcs l = (k : ℕ) → k < l.arcs-index → (loop_at l.graph k).maxcount < 2 ^ 32
