use Rattle.std.proofs.Common.{◌≡◌, ◌<◌, ℕ, get_or}
use Rattle.cache_class.specs.Chains.{last_at}
use Rattle.cache_class.proofs.chains.end_alike.Given as goal

abbrev pub invariant-loop-i : goal.invariant-loop-i
invariant-loop-i l = (k : ℕ) → k < l.i → last_at l.chains (get_or l.nodes k 0) ≡ last_at l.chains (get_or l.nodes 0 0)
