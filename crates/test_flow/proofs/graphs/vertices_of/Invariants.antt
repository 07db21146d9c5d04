use Rattle.graph_loops.specs.Graph.{AreVertices}
use Rattle.test_flow.proofs.graphs.vertices_of.Given as goal

abbrev pub invariant-loop-word : goal.invariant-loop-word
invariant-loop-word l = AreVertices l.count l.vertices.items
