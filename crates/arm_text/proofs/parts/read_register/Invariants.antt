-- No register so far is the text.
use Rattle.std.proofs.Common.{◌≡◌, ℕ, ◌<◌}
use Rattle.arm_text.specs.Names.{register_name}
use Rattle.arm_text.proofs.parts.read_register.Given as goal

abbrev pub invariant-loop-register : goal.invariant-loop-register
invariant-loop-register l = (k : ℕ) → k < l.register → l.text ≡ register_name k → ⊥
