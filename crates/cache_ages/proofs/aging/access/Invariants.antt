use Rattle.std.proofs.Common.{◌≡◌, ◌<◌, ◌≤◌, ℕ, get_or}
use Rattle.cache_ages.specs.Bounds.{aged_as}
use Rattle.cache_ages.proofs.aging.access.Given as goal

abbrev pub invariant-loop-i : goal.invariant-loop-i
invariant-loop-i l = record {
  aged : (k : ℕ) → k < l.i → get_or l.ages k 0 ≡ aged_as l.shape l.accessed.line l.accessed.below (get_or l.lines k 0) (get_or l.initial.ages k 0);
  rest : (k : ℕ) → l.i ≤ k → get_or l.ages k 0 ≡ get_or l.initial.ages k 0;
}
