use Rattle.std.proofs.Common.{◌≡◌, take, map}
use Rattle.pipe_block.specs.Exits.{exit_row_of}
use Rattle.pipe_block.proofs.exits.exit_rows.Given as goal

abbrev pub invariant-loop-row : goal.invariant-loop-row
invariant-loop-row l = l.exits.items ≡ map (exit_row_of l.m l.taken) (take l.row-index l.rows)
