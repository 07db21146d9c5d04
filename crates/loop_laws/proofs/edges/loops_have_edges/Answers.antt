use Rattle.loop_laws.proofs.EdgeLemmas.{loops_have_edges, over_nodes}
use Rattle.loop_laws.proofs.edges.loops_have_edges.Goals as goal

pub returns-clause-nodes : goal.returns-clause-nodes
returns-clause-nodes c = over_nodes

pub returns-clause-loops : goal.returns-clause-loops
returns-clause-loops c = loops_have_edges
