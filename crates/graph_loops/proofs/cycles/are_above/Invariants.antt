use Rattle.std.proofs.Common.{ℕ, ◌<◌, get_or}
use Rattle.graph_loops.proofs.cycles.are_above.Given as goal

abbrev pub invariant-loop-u : goal.invariant-loop-u
invariant-loop-u l = (k : ℕ) → k < l.u-index → l.bound < get_or l.numbers (get_or l.targets k 0) 0
