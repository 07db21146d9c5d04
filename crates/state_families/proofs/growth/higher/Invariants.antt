use Rattle.std.proofs.Common.{◌≡◌, ℕ, ◌<◌, ◌≤◌, length, get_or, max}
use Rattle.state_families.proofs.growth.higher.Given as goal

abbrev pub invariant-loop-k : goal.invariant-loop-k
invariant-loop-k l = record {
  long : length l.slots ≡ 35;
  done : (j : ℕ) → j < l.k → get_or l.slots j 0 ≡ max (get_or l.a j 0) (get_or l.b j 0);
  left : (j : ℕ) → l.k ≤ j → get_or l.slots j 0 ≡ get_or l.a j 0;
}
