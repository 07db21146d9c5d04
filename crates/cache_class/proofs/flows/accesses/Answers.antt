use Rattle.std.proofs.Common.{◌<◌, ◌∙◌, length, arith}
use Rattle.cache_class.proofs.MadeLemmas.{nodes_more}
use Rattle.cache_class.proofs.flows.accesses.Goals as goal

pub loop-node-preserved : goal.loop-node-preserved
loop-node-preserved c =
    let within : c.loop-node.node < length c.args.u.now.nodes = omega arith in
    nodes_more c.args.u.now c.loop-node.node c.loop-node.nodes.items c.push.new.self.items c.new.result c.slots_at.result.now within c.slots_at.ensures
    (c.new.ensures ∙ c.in_ok-lines.ensures) c.loop-node.invariant c.in_ok-push.ensures.items
