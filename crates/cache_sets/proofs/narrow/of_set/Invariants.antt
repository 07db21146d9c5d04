use Rattle.std.proofs.Common.{◌≡◌, ◌++◌, drop}
use Rattle.cache_sets.specs.Sets.{of_set}
use Rattle.cache_sets.proofs.narrow.of_set.Given as goal

abbrev pub invariant-loop-line : goal.invariant-loop-line
invariant-loop-line l = of_set l.shape l.set l.lines ≡ l.kept.items ++ of_set l.shape l.set (drop l.line-index l.lines)
