use Rattle.std.proofs.Common.{ℕ, ◌<◌, ◌≤◌}
use Rattle.elf_image.specs.Fields.{symbol_entry}
use Rattle.elf_image.proofs.table.names_begin_by.Given as goal

abbrev pub invariant-loop-i : goal.invariant-loop-i
invariant-loop-i l = (k : ℕ) → k < l.i → (symbol_entry l.bytes l.section k).name ≤ l.last
