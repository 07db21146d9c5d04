use Rattle.cache_class.proofs.OrderLemmas.{AreDown}
use Rattle.cache_class.proofs.chains.outside_in.Given as goal

abbrev pub invariant-loop-fewer : goal.invariant-loop-fewer
invariant-loop-fewer l = AreDown l.u l.fewer l.order.items
