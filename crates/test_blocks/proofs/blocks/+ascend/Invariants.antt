use Rattle.std.proofs.Common.{length}
use Rattle.test_blocks.proofs.blocks.+ascend.Given as goal

abbrev pub decreases-ascend : goal.decreases-ascend
decreases-ascend l = length l.slots.now
