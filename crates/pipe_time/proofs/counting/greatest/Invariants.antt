use Rattle.std.proofs.Common.{◌≡◌, take}
use Rattle.wx_base.specs.Blocks.{greatest_slot}
use Rattle.pipe_time.proofs.counting.greatest.Given as goal

abbrev pub invariant-loop-slot : goal.invariant-loop-slot
invariant-loop-slot l = l.greatest ≡ greatest_slot (take l.slot-index l.slots)
