use Rattle.std.proofs.Common.{◌∙◌}
use Rattle.cache_class.proofs.BlockLemmas.{slots_are}
use Rattle.cache_class.proofs.lookup.slots_at.Goals as goal

pub block-requires : goal.block-requires
block-requires c = c.nodes_have_blocks.ensures c.args.u.now.program c.args.u.now c.args.node c.requires.unfolding c.requires.node

pub returns : goal.returns
returns c n stands = c.as_slice.ensures ∙ slots_are c.args.u.now c.args.node c.block.result.now n c.block.ensures stands
