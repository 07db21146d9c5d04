use Rattle.std.proofs.Common.{◌≡◌, take, map}
use Rattle.pipe_block.specs.Outcomes.{outcome_of}
use Rattle.pipe_block.proofs.outcome.listed.Given as goal

abbrev pub invariant-loop-row : goal.invariant-loop-row
invariant-loop-row l = l.list.items ≡ map outcome_of (take l.row-index l.rows)
