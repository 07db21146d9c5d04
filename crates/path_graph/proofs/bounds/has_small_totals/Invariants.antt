use Rattle.std.proofs.Common.{ℕ, ◌^◌, ◌<◌, ◌≤◌, get_or}
use Rattle.std.specs.Prelude.{pos, ◌≤ℤ◌}
use Rattle.path_graph.specs.declared.graph.TheConstants.{LARGEST}
use Rattle.path_graph.specs.Conditions.{IsWithin}
use Rattle.path_graph.specs.Graph.{arc_at, loop_at, finish_at}
use Rattle.path_graph.proofs.bounds.has_small_totals.Given as goal

abbrev pub invariant-loop-total : goal.invariant-loop-total
invariant-loop-total l = (k : ℕ) → k < l.total-index → get_or l.graph.totals k 0 < 2 ^ 32
