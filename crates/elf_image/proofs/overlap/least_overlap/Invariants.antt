use Rattle.std.proofs.Common.{ℕ, ◌<◌, length}
use Rattle.elf_image.specs.Overlaps.{NoneMeetsLater, header_in}
use Rattle.elf_image.proofs.overlap.least_overlap.Given as goal

abbrev pub invariant-loop-a : goal.invariant-loop-a
invariant-loop-a l = (c : ℕ) → c < l.a → NoneMeetsLater (header_in l.headers) c (length l.headers)
