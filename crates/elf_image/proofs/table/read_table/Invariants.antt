use Rattle.std.proofs.Common.{◌≡◌, map}
use Rattle.std.specs.Prelude.{filter}
use Rattle.std.specs.List.{range_with_len}
use Rattle.elf_image.specs.Fields.{symbol_entry}
use Rattle.elf_image.specs.Meaning.{is_defined, symbol}
use Rattle.elf_image.proofs.table.read_table.Given as goal

abbrev pub invariant-loop-i : goal.invariant-loop-i
invariant-loop-i l =
    l.symbols.items ≡ map (symbol l.table) (filter is_defined (map (symbol_entry l.bytes l.section) (range_with_len 0 l.i)))
