use Rattle.std.proofs.Common.{take}
use Rattle.state_families.specs.Growth.{IsAdded}
use Rattle.state_families.proofs.growth.add_fresh.Given as goal

abbrev pub invariant-loop-slots : goal.invariant-loop-slots
invariant-loop-slots l = IsAdded l.initial.set.keys (take l.slots-index l.arrivals) l.set.keys l.fresh.items
