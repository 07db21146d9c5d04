use Rattle.wx_base.specs.CacheStates.{is_rival}
use Rattle.cache_kept.proofs.NewerLemmas.{RivalsSoFar}
use Rattle.cache_kept.proofs.newer.add_rivals.Given as goal

abbrev pub invariant-loop-other : goal.invariant-loop-other
invariant-loop-other l = RivalsSoFar (is_rival l.shape l.line) l.others l.other-index l.initial.found.items l.found.items
