use Rattle.flow_ctx.proofs.BlockLemmas.{nodes_have_blocks}
use Rattle.flow_ctx.proofs.laws.nodes_have_blocks.Goals as goal

pub returns : goal.returns
returns c = nodes_have_blocks
