use Rattle.flow_block.proofs.starts.starts.Given as goal

abbrev pub ghost-close : goal.ghost-close
ghost-close g a = g.of
