use Rattle.std.proofs.Common.{◌≡◌, ◌<◌, ◌≤◌, ℕ, get_or, min}
use Rattle.cache_ages.proofs.aging.lower.Given as goal

abbrev pub invariant-loop-i : goal.invariant-loop-i
invariant-loop-i l = record {
  done : (k : ℕ) → k < l.i → get_or l.ages k 0 ≡ min (get_or l.initial.ages k 0) (get_or l.others k 0);
  rest : (k : ℕ) → l.i ≤ k → get_or l.ages k 0 ≡ get_or l.initial.ages k 0;
}
