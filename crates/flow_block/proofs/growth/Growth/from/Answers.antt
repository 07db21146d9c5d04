use Rattle.std.proofs.Common.{arith}
use Rattle.flow_block.proofs.Filled.{full}
use Rattle.flow_block.proofs.growth.Growth.from.Goals as goal

pub returns : goal.returns
returns g c = full g.of _ _ _ _ _ c.loop-at.invariant (omega arith)
