use Rattle.path_problem.proofs.SourceLemmas.{ArcsSoFar}
use Rattle.path_problem.proofs.layout.arcs_of.Given as goal

abbrev pub invariant-loop-vertex : goal.invariant-loop-vertex
invariant-loop-vertex l = ArcsSoFar l.layout.graph.now l.vertices l.vertex-index l.arcs.items
