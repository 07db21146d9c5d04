use Rattle.state_families.specs.Fresh.{AreFirstFresh}
use Rattle.state_families.proofs.rounds.first_fresh.Given as goal

abbrev pub invariant-loop-node : goal.invariant-loop-node
invariant-loop-node l = AreFirstFresh l.node l.u.start l.fresh.items
