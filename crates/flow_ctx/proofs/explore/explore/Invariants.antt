use Rattle.std.proofs.Common.{◌≤◌, length}
use Rattle.flow_ctx.specs.Unfolding.{most_nodes}
use Rattle.flow_ctx.proofs.FoundLemmas.{Explored}
use Rattle.flow_ctx.proofs.explore.explore.Given as goal

abbrev pub invariant-loop-i : goal.invariant-loop-i
invariant-loop-i l = (length l.places.keys ≤ most_nodes) × Explored l.program l.i l.places.keys
