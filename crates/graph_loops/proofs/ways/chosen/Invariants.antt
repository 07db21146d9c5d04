use Rattle.std.proofs.Common.{take}
use Rattle.graph_loops.specs.Ways.{AreChosen}
use Rattle.graph_loops.proofs.ways.chosen.Given as goal

abbrev pub invariant-loop-v : goal.invariant-loop-v
invariant-loop-v l = AreChosen (take l.v-index l.vertices) l.marks l.mark l.chosen.items
