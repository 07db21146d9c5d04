use Rattle.std.proofs.Common.{◌≡◌, ◌<◌, ◌≤◌, ◌||◌, ℕ, length}
use Rattle.std.specs.List.{All}
use Rattle.cache_pers.specs.Rows.{rows_of}
use Rattle.cache_pers.specs.Stays.{is_set_in}
use Rattle.cache_pers.proofs.rows.unite_each.Given as goal

abbrev pub invariant-loop-i : goal.invariant-loop-i
invariant-loop-i l = record {
  square : All (λ row. length row ≡ length l.others) (rows_of l.rows);
  done : (i k : ℕ) → i < l.i → is_set_in (rows_of l.rows) i k ≡ (is_set_in (rows_of l.initial.rows) i k || is_set_in (rows_of l.others) i k);
  rest : (i k : ℕ) → l.i ≤ i → is_set_in (rows_of l.rows) i k ≡ is_set_in (rows_of l.initial.rows) i k;
}
