-- The registers that are left are those of the list below the last one that was looked for.
use Rattle.std.proofs.Common.{◌-◌}
use Rattle.arm_text.proofs.Listed.{SoFar}
use Rattle.arm_text.proofs.lists.read_list.Given as goal

abbrev pub invariant-loop-higher : goal.invariant-loop-higher
invariant-loop-higher l = SoFar l.text l.rest l.list (16 - l.higher)
