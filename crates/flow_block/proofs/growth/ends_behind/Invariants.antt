use Rattle.flow_block.proofs.growth.ends_behind.Given as goal

abbrev pub ghost-is_leader : goal.ghost-is_leader
ghost-is_leader g a = g.of
