use Rattle.std.proofs.Common.{◌≡◌, take}
use Rattle.pipe_block.specs.Rows.{column_of}
use Rattle.pipe_block.proofs.columns.slot_times.Given as goal

abbrev pub invariant-loop-row : goal.invariant-loop-row
invariant-loop-row l = l.times.items ≡ column_of l.k (take l.row-index l.rows)
