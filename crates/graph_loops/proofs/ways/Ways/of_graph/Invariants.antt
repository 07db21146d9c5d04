use Rattle.graph_loops.specs.Graph.{lists_of}
use Rattle.graph_loops.specs.Ways.{AreBackInto, AreForwardInto}
use Rattle.graph_loops.proofs.WayLemmas.{EachSoFar}
use Rattle.graph_loops.proofs.ways.Ways.of_graph.Given as goal

abbrev pub invariant-loop-v : goal.invariant-loop-v
invariant-loop-v l = record {
  forward : EachSoFar (AreForwardInto l.graph l.entry) l.v (lists_of l.forward.items);
  back : EachSoFar (AreBackInto l.graph l.entry) l.v (lists_of l.back.items);
}
