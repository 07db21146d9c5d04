use Rattle.std.proofs.Common.{ℕ, ◌^◌, ◌<◌, ◌≤◌, get_or}
use Rattle.std.specs.Prelude.{pos, ◌≤ℤ◌}
use Rattle.path_graph.specs.declared.graph.TheConstants.{LARGEST}
use Rattle.path_graph.specs.Conditions.{IsWithin}
use Rattle.path_graph.specs.Graph.{arc_at, loop_at, finish_at}
use Rattle.path_graph.proofs.bounds.has_small_weights.Given as goal

abbrev pub invariant-loop-arc : goal.invariant-loop-arc
invariant-loop-arc l = (a : ℕ) → a < l.arc-index → IsWithin (2 ^ 80) (arc_at l.graph a).weight
