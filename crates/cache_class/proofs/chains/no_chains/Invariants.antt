use Rattle.cache_class.specs.Chains.{AreEmpty}
use Rattle.cache_class.proofs.chains.no_chains.Given as goal

abbrev pub invariant-loop-node : goal.invariant-loop-node
invariant-loop-node l = AreEmpty l.node l.chains.items
