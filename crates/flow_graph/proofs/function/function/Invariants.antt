use Rattle.flow_graph.proofs.function.function.Given as goal

abbrev pub ghost-blocks_of : goal.ghost-blocks_of
ghost-blocks_of g a = g.of
