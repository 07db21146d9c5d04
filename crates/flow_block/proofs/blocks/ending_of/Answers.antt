use Rattle.flow_block.proofs.Finished.{ending_is}
use Rattle.flow_block.proofs.blocks.ending_of.Goals as goal

pub returns : goal.returns
returns g c = ending_is g.of _ _ _ _ _ _ _ _ _ c.requires.0 c.requires.1.0 c.flow-flow.ensures.value c.next_of-next.ensures c.in_ok-jumps.ensures c.in_ok-calls.ensures c.new.ensures c.new-2.ensures
