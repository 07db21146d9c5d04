-- No kind so far is the text.
use Rattle.std.proofs.Common.{◌≡◌, ℕ, ◌<◌}
use Rattle.arm_text.specs.Names.{shift_name}
use Rattle.arm_text.proofs.parts.read_shift_kind.Given as goal

abbrev pub invariant-loop-kind : goal.invariant-loop-kind
invariant-loop-kind l = (k : ℕ) → k < l.kind → l.text ≡ shift_name k → ⊥
