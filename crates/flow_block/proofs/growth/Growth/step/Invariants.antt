use Rattle.flow_block.proofs.growth.Growth.step.Given as goal

abbrev pub ghost-ends_behind : goal.ghost-ends_behind
ghost-ends_behind g a = g.of
