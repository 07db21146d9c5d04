use Rattle.flow_block.proofs.starts.cut.Given as goal

abbrev pub ghost-from : goal.ghost-from
ghost-from g a = g.of
