use Rattle.graph_loops.specs.Graph.{lists_of}
use Rattle.graph_loops.proofs.CycleLemmas.{no_cycle}
use Rattle.graph_loops.proofs.cycles.least_cyclic.Goals as goal

pub returns-then-rise : goal.returns-then-rise
returns-then-rise c = no_cycle (lists_of c.args.lists.now) c.as_slice.result.now (c.rise.ensures.0 c.if-rise.true)
