use Rattle.pipe_block.proofs.BlockLemmas.{timed, node_timed}
use Rattle.pipe_block.proofs.laws.blocks_are_timed.Goals as goal

pub returns-clause-blocks : goal.returns-clause-blocks
returns-clause-blocks c = timed

pub returns-clause-nodes : goal.returns-clause-nodes
returns-clause-nodes c = node_timed
