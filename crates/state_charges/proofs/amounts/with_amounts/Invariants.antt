use Rattle.state_charges.proofs.MissLemmas.{FirstAmounts}
use Rattle.state_charges.proofs.amounts.with_amounts.Given as goal

abbrev pub invariant-loop-i : goal.invariant-loop-i
invariant-loop-i l = FirstAmounts l.groups l.amounts l.i l.charges.items
