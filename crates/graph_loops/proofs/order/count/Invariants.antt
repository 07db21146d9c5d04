use Rattle.std.proofs.Common.{◌≡◌, length}
use Rattle.graph_loops.proofs.order.count.Given as goal

abbrev pub invariant-loop-u : goal.invariant-loop-u
invariant-loop-u l = length l.counts.items ≡ length l.initial.counts.items
