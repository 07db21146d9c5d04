use Rattle.std.proofs.Common.{◌≡◌, ◌<◌, ◌≤◌, ◌||◌, ℕ, false, get_or}
use Rattle.cache_pers.proofs.rows.unite.Given as goal

abbrev pub invariant-loop-k : goal.invariant-loop-k
invariant-loop-k l = record {
  done : (k : ℕ) → k < l.k → get_or l.entries k false ≡ (get_or l.initial.entries k false || get_or l.others k false);
  rest : (k : ℕ) → l.k ≤ k → get_or l.entries k false ≡ get_or l.initial.entries k false;
}
