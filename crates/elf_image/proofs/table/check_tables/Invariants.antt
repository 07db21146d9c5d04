use Rattle.std.proofs.Common.{ℕ, ◌<◌}
use Rattle.elf_image.specs.Causes.{SectionIsSound}
use Rattle.elf_image.proofs.table.check_tables.Given as goal

abbrev pub invariant-loop-i : goal.invariant-loop-i
invariant-loop-i l = (i : ℕ) → i < l.i → SectionIsSound l.bytes i
