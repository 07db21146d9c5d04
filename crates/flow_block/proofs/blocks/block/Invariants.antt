use Rattle.flow_block.proofs.blocks.block.Given as goal

abbrev pub ghost-from : goal.ghost-from
ghost-from g a = g.of

abbrev pub ghost-ending_of : goal.ghost-ending_of
ghost-ending_of g a = g.of
