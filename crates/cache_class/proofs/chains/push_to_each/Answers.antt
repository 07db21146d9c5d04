use Rattle.std.proofs.Common.{◌<◌, get_or, length, arith}
use Rattle.std.proofs.lemmas.List.Elements.{Contains-get_or}
use Rattle.cache_class.proofs.ChainLemmas.{pushed_more}
use Rattle.cache_class.proofs.chains.push_to_each.Goals as goal

pub push_at-requires : goal.push_at-requires
push_at-requires c =
    let i = c.loop-node.node-index in
    let inside : i < length c.args.nodes.now = omega arith in
    omega (arith, c.requires.nodes (get_or c.args.nodes.now i 0) (Contains-get_or c.args.nodes.now i 0 inside), c.loop-node.invariant.long)

pub loop-node-preserved : goal.loop-node-preserved
loop-node-preserved c =
    let i = c.loop-node.node-index in
    let inside : i < length c.args.nodes.now = omega arith in
    pushed_more c.args.nodes.now i c.args.number c.args.chains.now c.loop-node.chains c.push_at.new.chains c.requires.ascending inside c.loop-node.invariant c.in_ok-push_at.ensures
