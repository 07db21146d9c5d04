use Rattle.std.proofs.Common.{length}
use Rattle.flow_ctx.proofs.FoundLemmas.{GrownSoFar}
use Rattle.flow_ctx.proofs.explore.add.Given as goal

abbrev pub invariant-loop-target : goal.invariant-loop-target
invariant-loop-target l = GrownSoFar l.fn.targets.items l.targets.items l.initial.places.keys l.places.keys

abbrev pub decreases-loop-target : goal.decreases-loop-target
decreases-loop-target l = length l.targets.items
