use Rattle.state_families.specs.Families.{AreFirst}
use Rattle.state_families.proofs.rounds.first_sets.Given as goal

abbrev pub invariant-loop-node : goal.invariant-loop-node
invariant-loop-node l = AreFirst l.node l.u.start l.sets.items
