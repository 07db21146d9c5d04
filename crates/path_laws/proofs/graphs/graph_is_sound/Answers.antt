use Rattle.path_laws.proofs.GraphLemmas.{graph_is_sound}
use Rattle.path_laws.proofs.graphs.graph_is_sound.Goals as goal

pub returns : goal.returns
returns c =
    graph_is_sound c.closed_walks_lie_in_a_loop.ensures c.smaller_loops_are_within.ensures.within
    c.loops_have_edges.ensures.loops c.loops_have_edges.ensures.nodes c.back_edges_are_of_one_loop.ensures.back
