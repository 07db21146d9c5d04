-- No condition so far is the text.
use Rattle.std.proofs.Common.{◌≡◌, ℕ, ◌<◌}
use Rattle.arm_text.specs.Names.{condition_suffix}
use Rattle.arm_text.proofs.parts.read_condition.Given as goal

abbrev pub invariant-loop-cond : goal.invariant-loop-cond
invariant-loop-cond l = (k : ℕ) → k < l.cond → l.text ≡ condition_suffix k → ⊥
