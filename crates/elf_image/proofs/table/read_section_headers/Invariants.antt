use Rattle.std.proofs.Common.{◌≡◌, ℕ, ◌<◌, map}
use Rattle.std.specs.List.{range_with_len}
use Rattle.elf_image.specs.Causes.{SectionInFile}
use Rattle.elf_image.specs.Fields.{section_header, section_header_place}
use Rattle.elf_image.proofs.table.read_section_headers.Given as goal

abbrev pub invariant-loop-index : goal.invariant-loop-index
invariant-loop-index l = record {
  place : l.at ≡ section_header_place l.bytes l.index;
  items : l.sections.items ≡ map (section_header l.bytes) (range_with_len 0 l.index);
  in_file : (i : ℕ) → i < l.index → SectionInFile l.bytes i;
}
