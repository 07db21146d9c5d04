use Rattle.state_charges.proofs.KeyLemmas.{FirstPlaces}
use Rattle.state_charges.proofs.places.places_of.Given as goal

abbrev pub invariant-loop-place : goal.invariant-loop-place
invariant-loop-place l = FirstPlaces l.groups l.place l.places.entries
