use Rattle.std.proofs.Common.{take}
use Rattle.cache_kept.specs.Parts.{AreInside}
use Rattle.cache_kept.proofs.stretch.marks_of.Given as goal

abbrev pub invariant-loop-node : goal.invariant-loop-node
invariant-loop-node l = AreInside l.count (take l.node-index l.members) l.marks.items
