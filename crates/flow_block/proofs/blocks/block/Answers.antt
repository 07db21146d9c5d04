use Rattle.std.proofs.Common.{refl, arith}
use Rattle.flow_block.proofs.Finished.{block_is}
use Rattle.flow_block.proofs.Lengths.{begins_own}
use Rattle.flow_block.proofs.blocks.block.Goals as goal

pub from-requires : goal.from-requires
from-requires g c = (c.requires.0, (c.requires.1.0, (c.requires.1.1.0, begins_own g.of _ _ _ c.requires.0 _ c.requires.1.1.1.1.0)))

pub returns : goal.returns
returns g c = (refl, block_is g.of _ _ _ _ _ _ _ _ c.requires.1.1.1.1.0 c.in_ok-list.ensures (omega (arith, c.len-before.ensures, c.in_ok-list.field-0.insns.ok.0)) c.new.ensures c.new-2.ensures c.in_ok-ending.ensures)
