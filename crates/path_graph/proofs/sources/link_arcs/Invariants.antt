use Rattle.path_graph.specs.Sources.{AreArcsBelow}
use Rattle.path_graph.proofs.sources.link_arcs.Given as goal

abbrev pub invariant-loop-number : goal.invariant-loop-number
invariant-loop-number l = AreArcsBelow l.graph l.number l.last l.previous
