use Rattle.std.proofs.Common.{◌∙◌, arith}
use Rattle.elf_image.proofs.Sections.{section_count, section_in, string_table_at}
use Rattle.elf_image.proofs.table.string_table.Goals as goal

pub bounds-sections-section : goal.bounds-sections-section
bounds-sections-section c =
    omega (arith, section_count c.args.bytes.now c.args.sections.now c.requires.headers, c.requires.strings.linked)

pub part_of-requires : goal.part_of-requires
part_of-requires c =
    rw (section_in c.args.bytes.now c.args.sections.now c.args.section.now.link _ c.requires.headers c.requires.strings.linked) c.requires.strings.in_file

pub returns : goal.returns
returns c =
    c.part_of.ensures ∙ string_table_at c.args.bytes.now c.args.section.now _ (section_in c.args.bytes.now c.args.sections.now c.args.section.now.link _ c.requires.headers c.requires.strings.linked)
