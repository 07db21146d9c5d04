use Rattle.std.proofs.Common.{◌≡◌, false, replicate}
use Rattle.cache_pers.specs.Rows.{rows_of}
use Rattle.cache_pers.proofs.rows.make_rows.Given as goal

abbrev pub invariant-loop-row : goal.invariant-loop-row
invariant-loop-row l = rows_of l.rows.items ≡ replicate l._row (replicate l.lines false)
