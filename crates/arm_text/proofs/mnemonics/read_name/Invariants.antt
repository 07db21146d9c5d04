-- No name so far is the text.
use Rattle.std.proofs.Common.{◌≡◌, ℕ, ◌<◌, slice_index_or}
use Rattle.arm_text.specs.declared.mnemonics.Name.{Name}
use Rattle.arm_text.specs.Mnemonics.{name_text}
use Rattle.arm_text.proofs.mnemonics.read_name.Given as goal

abbrev pub invariant-loop-name : goal.invariant-loop-name
invariant-loop-name l = (k : ℕ) (d : Name) → k < l.name-index → l.text ≡ name_text (slice_index_or l.name-items k d) → ⊥
