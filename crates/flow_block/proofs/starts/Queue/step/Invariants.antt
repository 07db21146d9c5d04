use Rattle.flow_block.proofs.starts.Queue.step.Given as goal

abbrev pub ghost-cut : goal.ghost-cut
ghost-cut g a = g.of
