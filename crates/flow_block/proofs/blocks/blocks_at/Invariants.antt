use Rattle.std.proofs.Common.{take}
use Rattle.flow_block.specs.Starts.{AreBlocksAt}
use Rattle.flow_block.proofs.blocks.blocks_at.Given as goal

abbrev pub ghost-block : goal.ghost-block
ghost-block g a = g.of

abbrev pub invariant-loop-start : goal.invariant-loop-start
invariant-loop-start g l = AreBlocksAt g.of l.machine (take l.start-index l.starts) l.blocks.items
