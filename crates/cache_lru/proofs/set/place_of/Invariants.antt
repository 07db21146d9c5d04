use Rattle.std.proofs.Common.{◌≡◌, false, eqb, take}
use Rattle.std.specs.List.{list_any}
use Rattle.cache_lru.proofs.set.place_of.Given as goal

abbrev pub invariant-loop-i : goal.invariant-loop-i
invariant-loop-i l = list_any (λ other. eqb other l.line) (take l.i l.lines) ≡ false
