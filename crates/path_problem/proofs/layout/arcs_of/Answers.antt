use Rattle.path_problem.proofs.SourceLemmas.{has_arcs}
use Rattle.path_problem.proofs.layout.arcs_of.Goals as goal

pub returns-clause-each : goal.returns-clause-each
returns-clause-each c = has_arcs c.args.layout.now.graph.now c.args.vertices.now c.loop-vertex.vertex-index c.loop-vertex.arcs.items c.loop-vertex.invariant c.loop-vertex-test.false
