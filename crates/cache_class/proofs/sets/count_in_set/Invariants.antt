use Rattle.std.proofs.Common.{◌≡◌, length, take}
use Rattle.wx_base.specs.Cache.{set_of}
use Rattle.cache_sets.specs.Sets.{of_set}
use Rattle.cache_class.proofs.sets.count_in_set.Given as goal

abbrev pub invariant-loop-other : goal.invariant-loop-other
invariant-loop-other l = l.count ≡ length (of_set l.shape (set_of l.shape l.line) (take l.other-index l.lines))
