use Rattle.std.proofs.Common.{◌<◌, ℕ, length, get_or, sym, subst, ◌∙◌, arith}
use Rattle.std.proofs.lemmas.List.Elements.{Contains-get_or}
use Rattle.cache_kept.proofs.WalkLemmas.{came_more}
use Rattle.cache_kept.proofs.walk.come_to_all.Goals as goal

pub come_to-requires-clause-node : goal.come_to-requires-clause-node
come_to-requires-clause-node c =
    let v = get_or c.args.nodes.now c.loop-node.node-index 0 in
    let within : v < length c.args.marks.now.items = c.requires.nodes.within v (Contains-get_or c.args.nodes.now c.loop-node.node-index 0 (omega arith)) in
    subst (λ (n : ℕ). v < n) (sym c.loop-node.invariant.count) within

pub loop-node-preserved : goal.loop-node-preserved
loop-node-preserved c = record {
  count = c.in_ok-come_to.ensures.count ∙ c.loop-node.invariant.count;
  marked = c.in_ok-come_to.ensures.marked;
  came = came_more c.args.queue.now.items c.loop-node.queue.items c.come_to.new.queue.items c.args.inside.now c.args.nodes.now c.loop-node.node-index (omega arith) c.loop-node.invariant.came
      c.in_ok-come_to.ensures.came;
}
