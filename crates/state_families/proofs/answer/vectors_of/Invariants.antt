use Rattle.std.proofs.Common.{◌≡◌, map, take}
use Rattle.state_families.specs.Families.{vector_of}
use Rattle.state_families.proofs.answer.vectors_of.Given as goal

abbrev pub invariant-loop-slots : goal.invariant-loop-slots
invariant-loop-slots l = l.vectors.items ≡ map vector_of (take l.slots-index l.list)
