use Rattle.std.proofs.Common.{arith, rules}
use Rattle.std.proofs.lemmas.List.Elements.{Contains-get_or}
use Rattle.cache_kept.proofs.StretchLemmas.{marked_next, marks_begin, marks_end}
use Rattle.cache_kept.proofs.stretch.marks_of.Goals as goal

pub loop-node-init : goal.loop-node-init
loop-node-init c = marks_begin c.args.count c.in_ok-marks.marks.items (search rules)

pub index_mut-requires : goal.index_mut-requires
index_mut-requires c =
    omega (arith, c.loop-node.invariant.long, c.loop-node.marks.ok.0, c.requires.within _ (Contains-get_or c.args.members.now c.loop-node.node-index 0 c.loop-node-test.true))

pub loop-node-preserved : goal.loop-node-preserved
loop-node-preserved c = marked_next c.args.count c.args.members.now c.loop-node.node-index c.loop-node.marks.items c.loop-node-test.true c.requires c.loop-node.invariant

pub returns : goal.returns
returns c = marks_end c.args.count c.args.members.now c.loop-node.node-index c.loop-node.marks.items c.loop-node-test.false c.loop-node.invariant
