use Rattle.std.proofs.Common.{◌≡◌, take}
use Rattle.cache_pers.specs.Rows.{rows_of}
use Rattle.cache_pers.proofs.rows.copy_rows.Given as goal

abbrev pub invariant-loop-row : goal.invariant-loop-row
invariant-loop-row l = rows_of l.copy.items ≡ rows_of (take l.row-index l.rows)
