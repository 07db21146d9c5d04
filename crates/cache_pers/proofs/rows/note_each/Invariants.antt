use Rattle.std.proofs.Common.{◌≡◌, ◌<◌, ◌≤◌, ℕ, eqb, false, length, get_or}
use Rattle.std.specs.List.{All}
use Rattle.cache_pers.specs.Rows.{rows_of}
use Rattle.cache_pers.specs.Stays.{noted, is_set_in}
use Rattle.cache_pers.proofs.rows.note_each.Given as goal

abbrev pub invariant-loop-i : goal.invariant-loop-i
invariant-loop-i l = record {
  square : All (λ row. length row ≡ length l.lines) (rows_of l.rows);
  done : (i k : ℕ) → i < l.i → is_set_in (rows_of l.rows) i k
      ≡ noted l.access.shape (get_or l.lines i 0) (get_or l.known i false) l.access.line (eqb k l.access.at) (is_set_in (rows_of l.initial.rows) i k);
  rest : (i k : ℕ) → l.i ≤ i → is_set_in (rows_of l.rows) i k ≡ is_set_in (rows_of l.initial.rows) i k;
}
