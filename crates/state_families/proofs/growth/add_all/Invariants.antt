use Rattle.std.proofs.Common.{◌≡◌, take}
use Rattle.state_families.proofs.growth.add_all.Given as goal

abbrev pub invariant-loop-slots : goal.invariant-loop-slots
invariant-loop-slots l = l.set.keys ≡ take l.slots-index l.vectors
