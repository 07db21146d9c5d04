use Rattle.std.proofs.Common.{length}
use Rattle.graph_loops.specs.Graph.{AreVertices}
use Rattle.graph_loops.proofs.order.free.Given as goal

abbrev pub invariant-loop-v : goal.invariant-loop-v
invariant-loop-v l = AreVertices (length l.waiting) l.free.items
