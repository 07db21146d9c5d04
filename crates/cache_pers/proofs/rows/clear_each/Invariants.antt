use Rattle.std.proofs.Common.{◌≡◌, ◌<◌, ℕ, false, length}
use Rattle.std.specs.List.{All}
use Rattle.cache_pers.specs.Rows.{rows_of}
use Rattle.cache_pers.specs.Stays.{is_set_in}
use Rattle.cache_pers.proofs.rows.clear_each.Given as goal

abbrev pub invariant-loop-i : goal.invariant-loop-i
invariant-loop-i l = record {
  count : length l.rows ≡ length l.initial.rows;
  square : All (λ row. length row ≡ length l.initial.rows) (rows_of l.rows);
  done : (i k : ℕ) → i < l.i → is_set_in (rows_of l.rows) i k ≡ false;
}
