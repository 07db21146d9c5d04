use Rattle.flow_block.proofs.Finished.{blocks_more}
use Rattle.flow_block.proofs.blocks.blocks_at.Goals as goal

pub loop-start-preserved : goal.loop-start-preserved
loop-start-preserved g c = blocks_more g.of _ _ _ _ _ _ c.loop-start.invariant c.loop-start-test.true c.in_ok-block.ensures.0 c.in_ok-block.ensures.1 c.in_ok-push.ensures.items
