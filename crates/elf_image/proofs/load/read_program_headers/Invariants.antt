use Rattle.std.proofs.Common.{◌≡◌, ℕ, ◌<◌, map}
use Rattle.std.specs.List.{range_with_len}
use Rattle.elf_image.specs.Causes.{IsSoundHeader}
use Rattle.elf_image.specs.Fields.{program_header, program_header_place}
use Rattle.elf_image.proofs.load.read_program_headers.Given as goal

abbrev pub invariant-loop-index : goal.invariant-loop-index
invariant-loop-index l = record {
  place : l.at ≡ program_header_place l.bytes l.index;
  items : l.headers.items ≡ map (program_header l.bytes) (range_with_len 0 l.index);
  sound : (i : ℕ) → i < l.index → IsSoundHeader l.bytes i;
}
