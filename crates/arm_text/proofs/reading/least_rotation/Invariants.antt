-- No rotation so far stands for the number.
use Rattle.std.proofs.Common.{◌≡◌, false}
use Rattle.std.specs.List.{list_any, range_with_len}
use Rattle.arm_text.specs.Text.{has_rotation}
use Rattle.arm_text.proofs.reading.least_rotation.Given as goal

abbrev pub invariant-loop-rot : goal.invariant-loop-rot
invariant-loop-rot l = list_any (has_rotation l.n) (range_with_len 0 l.rot) ≡ false
