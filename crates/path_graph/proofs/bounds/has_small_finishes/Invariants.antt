use Rattle.std.proofs.Common.{ℕ, ◌^◌, ◌<◌, ◌≤◌, get_or}
use Rattle.std.specs.Prelude.{pos, ◌≤ℤ◌}
use Rattle.path_graph.specs.declared.graph.TheConstants.{LARGEST}
use Rattle.path_graph.specs.Conditions.{IsWithin}
use Rattle.path_graph.specs.Graph.{arc_at, loop_at, finish_at}
use Rattle.path_graph.proofs.bounds.has_small_finishes.Given as goal

abbrev pub invariant-loop-finish : goal.invariant-loop-finish
invariant-loop-finish l = (v : ℕ) → v < l.finish-index → IsWithin (2 ^ 80) (finish_at l.graph v)
