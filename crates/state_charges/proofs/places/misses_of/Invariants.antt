use Rattle.state_charges.proofs.MissLemmas.{FirstMisses}
use Rattle.state_charges.proofs.places.misses_of.Given as goal

abbrev pub invariant-loop-event : goal.invariant-loop-event
invariant-loop-event l = FirstMisses l.places.groups l.slots l.classes l.event l.misses.items
