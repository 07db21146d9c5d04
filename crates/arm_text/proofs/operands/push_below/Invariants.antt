-- What the registers so far print has been appended.
use Rattle.std.proofs.Common.{◌≡◌, ◌++◌}
use Rattle.arm_text.specs.Text.{listed_below}
use Rattle.arm_text.proofs.operands.push_below.Given as goal

abbrev pub invariant-loop-register : goal.invariant-loop-register
invariant-loop-register l = l.out.items ≡ l.initial.out.items ++ listed_below l.list l.register
