use Rattle.std.proofs.Common.{◌≡◌, take, map}
use Rattle.pipe_block.proofs.columns.numbers.Given as goal

abbrev pub invariant-loop-row : goal.invariant-loop-row
invariant-loop-row l = l.times.items ≡ map (λ r. r.number) (take l.row-index l.rows)
