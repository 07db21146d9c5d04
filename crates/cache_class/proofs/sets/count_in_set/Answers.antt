use Rattle.std.proofs.Common.{arith}
use Rattle.wx_base.specs.Cache.{set_of}
use Rattle.cache_class.proofs.NarrowLemmas.{few_in_set}
use Rattle.cache_class.proofs.sets.count_in_set.Goals as goal

pub overflow_add-count : goal.overflow_add-count
overflow_add-count c = omega (arith, few_in_set c.args.shape (set_of c.args.shape c.args.line) c.args.lines.now c.loop-other.other-index c.loop-other.count c.loop-other.invariant)
