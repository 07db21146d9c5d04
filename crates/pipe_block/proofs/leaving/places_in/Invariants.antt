use Rattle.std.proofs.Common.{take}
use Rattle.pipe_block.specs.Rows.{AreMerged}
use Rattle.pipe_block.proofs.leaving.places_in.Given as goal

abbrev pub invariant-loop-row : goal.invariant-loop-row
invariant-loop-row l = AreMerged (take l.row-index l.rows) l.set.keys l.places.items
