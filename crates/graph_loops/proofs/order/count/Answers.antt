use Rattle.std.proofs.Common.{arith}
use Rattle.graph_loops.proofs.OrderLemmas.{vertex_there}
use Rattle.graph_loops.proofs.order.count.Goals as goal

pub index-requires : goal.index-requires
index-requires c = omega (arith, vertex_there _ c.args.targets.now c.loop-u.u-index c.requires (omega arith), c.loop-u.counts.ok.0, c.loop-u.invariant)

pub index_mut-requires : goal.index_mut-requires
index_mut-requires c = omega (arith, vertex_there _ c.args.targets.now c.loop-u.u-index c.requires (omega arith), c.loop-u.counts.ok.0, c.loop-u.invariant)
