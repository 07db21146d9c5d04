use Rattle.std.proofs.Common.{◌≡◌, not, ap, arith, eq-eqb, ne_eqb}
use Rattle.elf_image.specs.Causes.{EndsWithin, string_table}
use Rattle.elf_image.specs.Fields.{symbol_entry}
use Rattle.elf_image.proofs.Sections.{symbol_more, symbol_skipped}
use Rattle.elf_image.proofs.table.read_table.Goals.{then-entry-ne0+in_ok-read_symbol+in_ok-push, else-entry-ne0}
use Rattle.elf_image.proofs.table.read_table.Goals as goal

pub read_symbol-requires : goal.read_symbol-requires
read_symbol-requires c =
    let b = c.args.bytes.now in
    let s = c.args.section.now in
    let w : EndsWithin (string_table b s) (symbol_entry b s c.loop-i.i).name = c.requires.sound.names c.loop-i.i c.loop-i-test.true in
    let at : c.read_symbol_entry-entry.result.name ≡ (symbol_entry b s c.loop-i.i).name = ap (λ e. e.name) c.read_symbol_entry-entry.ensures in
    rw (at, c.string_table-table.ensures) (omega (arith, w.1, w.2))

pub loop-i-preserved : goal.loop-i-preserved
loop-i-preserved c =
    let b = c.args.bytes.now in
    let s = c.args.section.now in
    let table = c.string_table-table.result.now in
    let e = c.read_symbol_entry-entry.result in
    elim c.if-entry-ne0.branch [
      | then-entry-ne0+in_ok-read_symbol+in_ok-push w ↦
          rw (w.symbols-is, w.in_ok-push.ensures.items, w.in_ok-read_symbol.ensures)
          (symbol_more b table s c.loop-i.i c.loop-i.symbols.items e c.loop-i.invariant c.read_symbol_entry-entry.ensures (ap not (ne_eqb _ 0 w.if-entry-ne0.true)))
      | else-entry-ne0 w ↦
          rw w.symbols-is
          (symbol_skipped b table s c.loop-i.i c.loop-i.symbols.items e c.loop-i.invariant c.read_symbol_entry-entry.ensures (ap not (eq-eqb _ 0 w.if-entry-ne0.false)))
    ]
