use Rattle.std.proofs.Common.{◌≡◌, map, take}
use Rattle.std.specs.Prelude.{filter}
use Rattle.elf_image.specs.Fields.{fills}
use Rattle.elf_image.specs.Meaning.{segment}
use Rattle.elf_image.proofs.load.load_segments.Given as goal

abbrev pub invariant-loop-header : goal.invariant-loop-header
invariant-loop-header l =
    l.segments.items ≡ map (segment l.bytes) (filter fills (take l.header-index l.headers))
