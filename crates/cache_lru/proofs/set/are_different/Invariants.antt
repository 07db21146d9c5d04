use Rattle.std.proofs.Common.{eqb, take}
use Rattle.std.specs.List.{IsDistinct}
use Rattle.cache_lru.proofs.set.are_different.Given as goal

abbrev pub invariant-loop-i : goal.invariant-loop-i
invariant-loop-i l = IsDistinct eqb (take l.i l.lines)
