-- No rotation so far stands for the number.
use Rattle.std.proofs.Common.{◌≡◌, false}
use Rattle.std.specs.List.{list_any, range_with_len}
use Rattle.arm_text.specs.Text.{has_rotation}
use Rattle.arm_text.proofs.operands.is_least_rotation.Given as goal

abbrev pub invariant-loop-smaller : goal.invariant-loop-smaller
invariant-loop-smaller l = list_any (has_rotation l.n) (range_with_len 0 l.smaller) ≡ false
