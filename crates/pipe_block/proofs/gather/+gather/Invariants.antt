use Rattle.std.proofs.Common.{◌-◌}
use Rattle.pipe_block.proofs.gather.+gather.Given as goal

abbrev pub decreases-gather : goal.decreases-gather
decreases-gather l = 12 - l.level
