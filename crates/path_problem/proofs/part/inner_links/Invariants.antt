use Rattle.path_graph.specs.Graph.{loop_at}
use Rattle.path_problem.proofs.PartLemmas.{InnerSoFar}
use Rattle.path_problem.proofs.part.inner_links.Given as goal

abbrev pub invariant-loop-number : goal.invariant-loop-number
invariant-loop-number l = InnerSoFar l.part.layout.now.graph.now (loop_at l.part.layout.now.graph.now l.part.number) l.part.weights.now l.part.names.now l.part.places.now l.arcs l.number-index l.links.items
