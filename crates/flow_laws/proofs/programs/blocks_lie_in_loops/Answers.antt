use Rattle.flow_laws.proofs.BlockLemmas.{blocks_lie_in_loops}
use Rattle.flow_laws.proofs.programs.blocks_lie_in_loops.Goals as goal

pub returns : goal.returns
returns c = blocks_lie_in_loops c.heads_are_entries.ensures.outside c.single_edges_keep_membership.ensures
