use Rattle.std.proofs.Common.{◌<◌, ℕ, length, get_or, option_to_list, sym, subst, ◌∙◌, arith}
use Rattle.std.proofs.lemmas.List.Elements.{Contains-get_or}
use Rattle.graph_loops.proofs.WalkLemmas.{came_more}
use Rattle.graph_loops.proofs.walk.come_to_all.Goals as goal

pub come_to-requires-clause-vertex : goal.come_to-requires-clause-vertex
come_to-requires-clause-vertex c =
    let v = get_or c.args.vertices.now c.loop-v.v-index 0 in
    let within : v < length c.args.marks.now.items = c.requires.vertices.within v (Contains-get_or c.args.vertices.now c.loop-v.v-index 0 (omega arith)) in
    subst (λ (n : ℕ). v < n) (sym c.loop-v.invariant.count) within

pub loop-v-preserved : goal.loop-v-preserved
loop-v-preserved c = record {
  count = c.in_ok-come_to.ensures.count ∙ c.loop-v.invariant.count;
  marked = c.in_ok-come_to.ensures.marked;
  came = came_more c.args.queue.now.items c.loop-v.queue.items c.come_to.new.queue.items (option_to_list c.args.avoided) c.args.vertices.now c.loop-v.v-index (omega arith) c.loop-v.invariant.came c.in_ok-come_to.ensures.came;
}
