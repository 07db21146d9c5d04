use Rattle.std.proofs.Common.{◌≡◌, length}
use Rattle.graph_loops.proofs.order.counts.Given as goal

abbrev pub invariant-loop-v : goal.invariant-loop-v
invariant-loop-v l = length l.counts.items ≡ length l.lists
