use Rattle.std.proofs.Common.{◌≡◌, ap, sym, ◌∙◌, arith, below_more}
use Rattle.std.proofs.lemmas.Bool.{false≢true}
use Rattle.elf_image.specs.declared.fields.SectionHeader.{SectionHeader}
use Rattle.elf_image.specs.Causes.{SectionIsSound}
use Rattle.elf_image.specs.Fields.{section_header}
use Rattle.elf_image.proofs.Sections.{no_section, refused_table, section_count, section_in}
use Rattle.elf_image.proofs.table.check_tables.Goals.{else-section-eq-SYMBOL_TABLE-via-then-section-eq-SYMBOL_TABLE+else-not-is_sound_table, else-section-eq-SYMBOL_TABLE-via-else-section-eq-SYMBOL_TABLE}
use Rattle.elf_image.proofs.table.check_tables.Goals as goal

pub returns-then-not-is_sound_table-clause-refused : goal.returns-then-not-is_sound_table-clause-refused
returns-then-not-is_sound_table-clause-refused c =
    let b = c.args.bytes.now in
    let n = section_count b c.args.sections.now c.requires.headers in
    let e = section_in b c.args.sections.now c.loop-i.i no_section c.requires.headers (omega arith) in
    let kind : (section_header b c.loop-i.i).kind ≡ 2 = sym (ap (λ (s : SectionHeader). s.kind) e) ∙ c.if-section-eq-SYMBOL_TABLE.true in
    refused_table b c.loop-i.i c.requires.before c.requires.named c.requires.sized c.requires.in_file (omega arith) c.loop-i.invariant
    (λ sound. false≢true (sym c.if-not-is_sound_table.true ∙ c.is_sound_table.ensures.1 (rw e (sound kind))))

pub loop-i-preserved : goal.loop-i-preserved
loop-i-preserved c =
    let b = c.args.bytes.now in
    let n = section_count b c.args.sections.now c.requires.headers in
    let e = section_in b c.args.sections.now c.loop-i.i no_section c.requires.headers (omega arith) in
    below_more (SectionIsSound b) c.loop-i.i c.loop-i.invariant
    (λ kind. elim c.else-section-eq-SYMBOL_TABLE.branch [
      | else-section-eq-SYMBOL_TABLE-via-then-section-eq-SYMBOL_TABLE+else-not-is_sound_table w ↦ rw e at (w.is_sound_table.ensures.0 w.if-not-is_sound_table.false)
      | else-section-eq-SYMBOL_TABLE-via-else-section-eq-SYMBOL_TABLE w ↦ absurd (w.if-section-eq-SYMBOL_TABLE.false (ap (λ (s : SectionHeader). s.kind) e ∙ kind))
    ])

pub returns-clause-sound : goal.returns-clause-sound
returns-clause-sound c =
    let n = section_count c.args.bytes.now c.args.sections.now c.requires.headers in
    λ i h. c.loop-i.invariant i (omega arith)
