use Rattle.std.proofs.Common.{◌≡◌, ℕ, ◌<◌, get_or}
use Rattle.graph_loops.proofs.ways.are_same.Given as goal

abbrev pub invariant-loop-v : goal.invariant-loop-v
invariant-loop-v l = (k : ℕ) → k < l.v-index → get_or l.vertices k 0 ≡ get_or l.vertices 0 0
