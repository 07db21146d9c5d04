use Rattle.std.proofs.Common.{◌≡◌, ◌<◌, ℕ, true, false, get_or}
use Rattle.cache_pers.specs.Rows.{rows_of}
use Rattle.cache_pers.specs.Stays.{is_set_in}
use Rattle.cache_pers.proofs.rows.are_covered.Given as goal

abbrev pub invariant-loop-i : goal.invariant-loop-i
invariant-loop-i l = (i : ℕ) → i < l.i → get_or l.known i false ≡ true
    → (get_or l.other_known i false ≡ true) × ((k : ℕ) → is_set_in (rows_of l.rows) i k ≡ true → is_set_in (rows_of l.others) i k ≡ true)
