use Rattle.std.proofs.Common.{length, arith}
use Rattle.std.proofs.lemmas.Bool.Decides.{Decides-ltb}
use Rattle.elf_image.proofs.Sections.{no_section, section_count, section_in}
use Rattle.elf_image.proofs.table.has_strings.Goals as goal

pub returns-then-link-sections : goal.returns-then-link-sections
returns-then-link-sections c =
    let b = c.args.bytes.now in
    let s = c.args.section.now in
    let n = section_count b c.args.sections.now c.requires in
    let e = section_in b c.args.sections.now s.link no_section c.requires (omega arith) in
    (λ t. record { linked = omega arith; in_file = rw e at (c.lies_in_file.ensures.0 t) }, λ h. c.lies_in_file.ensures.1 (rw e h.in_file))

pub returns-else-link-sections : goal.returns-else-link-sections
returns-else-link-sections c =
    let n = section_count c.args.bytes.now c.args.sections.now c.requires in
    (λ t. let p = (Decides-ltb c.args.section.now.link (length c.args.sections.now)).0 t in absurd (omega arith), λ h. absurd (omega (arith, h.linked)))
