use Rattle.std.proofs.Common.{◌≤◌, length}
use Rattle.std.specs.List.{AllAdjacentBelow}
use Rattle.elf_image.proofs.Apart.{none_meet}
use Rattle.elf_image.proofs.overlap.lie_apart.Goals as goal

pub returns : goal.returns
returns c = λ h.
    let next : AllAdjacentBelow (λ r s. r.1 ≤ s.0) c.sort.new.self.items (length c.sort.new.self.items) = rw c.deref.ensures.value at (c.follow_each_other.ensures h) in
    none_meet c.args.headers.now c.in_ok-ranges.ranges.items _ c.in_ok-ranges.ensures c.in_ok-sort.ensures.permutation next
