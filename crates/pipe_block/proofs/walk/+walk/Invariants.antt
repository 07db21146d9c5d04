use Rattle.std.proofs.Common.{◌+◌, ◌-◌, length}
use Rattle.pipe_block.proofs.walk.+walk.Given as goal

abbrev pub decreases-walk : goal.decreases-walk
decreases-walk l = (length l.course.now.insns.now - l.state.now.at) + (length l.course.now.events.now - l.state.now.decided)
