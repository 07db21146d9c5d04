use Rattle.loop_laws.proofs.EdgeLemmas.{back_edges_are_of_one_loop, heads_differ}
use Rattle.loop_laws.proofs.edges.back_edges_are_of_one_loop.Goals as goal

pub returns-clause-heads : goal.returns-clause-heads
returns-clause-heads c = heads_differ

pub returns-clause-back : goal.returns-clause-back
returns-clause-back c = back_edges_are_of_one_loop
