use Rattle.std.proofs.Common.{◌≡◌, map, take}
use Rattle.state_families.specs.Families.{vector_of}
use Rattle.state_families.proofs.answer.all_vectors.Given as goal

abbrev pub invariant-loop-set : goal.invariant-loop-set
invariant-loop-set l = l.all.items ≡ map (λ set. map vector_of set.vectors) (take l.set-index l.sets)
