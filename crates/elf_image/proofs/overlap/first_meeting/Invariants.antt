use Rattle.elf_image.specs.Overlaps.{NoneMeetsLater, header_in}
use Rattle.elf_image.proofs.overlap.first_meeting.Given as goal

abbrev pub invariant-loop-b : goal.invariant-loop-b
invariant-loop-b l = NoneMeetsLater (header_in l.headers) l.a l.b
