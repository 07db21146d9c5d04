use Rattle.std.proofs.Common.{◌≡◌, ◌==◌, Some, ap, sym, ◌∙◌}
use Rattle.std.specs.Prelude.{find}
use Rattle.elf_image.specs.declared.fields.SectionHeader.{SectionHeader}
use Rattle.elf_image.proofs.Sections.{sound_if_found}
use Rattle.elf_image.proofs.table.read_symbols.Goals as goal

pub read_table-requires-clause-sound : goal.read_table-requires-clause-sound
read_table-requires-clause-sound c =
    let found : find (λ (s : SectionHeader). s.kind == 2) c.in_ok-sections.sections.items ≡ Some c.in-Some.section.now = ap (find (λ (s : SectionHeader). s.kind == 2)) (sym c.deref-2.ensures.value) ∙ sym c.in-Some.ensures in
    sound_if_found c.args.bytes.now c.in_ok-sections.sections.items c.in-Some.section.now c.in_ok-sections.ensures.headers c.in_ok-check_tables.ensures.sound found
