use Rattle.cache_class.specs.Chains.{AreListed}
use Rattle.cache_class.proofs.chains.push_of_size.Given as goal

abbrev pub invariant-loop-number : goal.invariant-loop-number
invariant-loop-number l = AreListed l.u l.size l.number l.order.items
