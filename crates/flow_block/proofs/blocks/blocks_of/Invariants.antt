use Rattle.flow_block.proofs.blocks.blocks_of.Given as goal

abbrev pub ghost-leaders : goal.ghost-leaders
ghost-leaders g a = g.of

abbrev pub ghost-starts : goal.ghost-starts
ghost-starts g a = g.of

abbrev pub ghost-blocks_at : goal.ghost-blocks_at
ghost-blocks_at g a = g.of
