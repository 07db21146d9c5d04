use Rattle.std.proofs.Common.{◌<◌, ◌≤◌, arith, length, map, min}
use Rattle.std.proofs.lemmas.Option.{slice_get-get_or}
use Rattle.cache_class.specs.GroupsSoFar.{group_at}
use Rattle.cache_class.proofs.GatherLemmas.{node_of, groups_more, groups_next}
use Rattle.cache_class.proofs.gather.add_node.Goals as goal

pub loop-i-preserved : goal.loop-i-preserved
loop-i-preserved c =
    let slot : c.loop-i.i < length c.slots_at-slots.result.now = omega arith in
    let class : c.loop-i.i < length c.as_slice-listed.result.now = omega arith in
    groups_more c.args.u.now c.args.classes.now c.args.node c.slots_at-slots.result.now c.as_slice-listed.result.now
    (node_of c.args.u.now c.args.classes.now c.args.node c.slots_at-slots.result.now c.as_slice.result.now c.index-as_slice-node.result c.as_slice-listed.result.now c.requires.node
    c.requires.listed c.slots_at-slots.ensures c.as_slice.ensures c.index-as_slice-node.is c.as_slice-listed.ensures) c.loop-i.i _ _ (map group_at c.loop-i.set.keys)
    (map group_at c.add_event.new.set.keys) (slice_get-get_or c.slots_at-slots.result.now c.loop-i.i _ slot) (slice_get-get_or c.as_slice-listed.result.now c.loop-i.i _ class)
    c.in_ok-add_event.ensures c.loop-i.invariant

pub returns : goal.returns
returns c =
    let end : min (length c.slots_at-slots.result.now) (length c.as_slice-listed.result.now) ≤ c.loop-i.i = omega arith in
    groups_next c.args.u.now c.args.classes.now c.args.node c.slots_at-slots.result.now c.as_slice-listed.result.now
    (node_of c.args.u.now c.args.classes.now c.args.node c.slots_at-slots.result.now c.as_slice.result.now c.index-as_slice-node.result c.as_slice-listed.result.now c.requires.node
    c.requires.listed c.slots_at-slots.ensures c.as_slice.ensures c.index-as_slice-node.is c.as_slice-listed.ensures) c.loop-i.i (map group_at c.loop-i.set.keys) end c.loop-i.invariant
