use Rattle.std.proofs.Common.{◌≡◌, ℕ, ◌-◌, ◌<◌, ◌≤◌, length, get_or}
use Rattle.pipe_time.proofs.counting.rebase.Given as goal

abbrev pub invariant-loop-k : goal.invariant-loop-k
invariant-loop-k l = record {
  long : length l.v.slots ≡ 35;
  done : (j : ℕ) → j < l.k → get_or l.v.slots j 0 ≡ get_or l.initial.v.slots j 0 - l.cost;
  left : (j : ℕ) → l.k ≤ j → get_or l.v.slots j 0 ≡ get_or l.initial.v.slots j 0;
}
