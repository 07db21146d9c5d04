use Rattle.std.proofs.Common.{ℕ, ◌<◌, get_or, map, []}
use Rattle.wx_base.specs.Cache.{IsSet}
use Rattle.cache_lru.proofs.lru.first_bad.Given as goal

abbrev pub invariant-loop-set : goal.invariant-loop-set
invariant-loop-set l = (k : ℕ) → k < l.set → IsSet l.shape k (get_or (map (λ list. list.items) l.lists) k [])
