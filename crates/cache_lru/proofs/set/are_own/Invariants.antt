use Rattle.std.proofs.Common.{◌≡◌, ℕ, ◌<◌, get_or}
use Rattle.wx_base.specs.Cache.{set_of}
use Rattle.cache_lru.proofs.set.are_own.Given as goal

abbrev pub invariant-loop-line : goal.invariant-loop-line
invariant-loop-line l = (k : ℕ) → k < l.line-index → set_of l.shape (get_or l.lines k 0) ≡ l.set
