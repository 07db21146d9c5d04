use Rattle.std.proofs.lemmas.List.Elements.{Contains-get_or}
use Rattle.cache_kept.proofs.StretchLemmas.{all_next, all_done}
use Rattle.cache_kept.proofs.stretch.are_marked.Goals as goal

pub bounds-marks-node : goal.bounds-marks-node
bounds-marks-node c = c.requires.within _ (Contains-get_or c.args.nodes.now c.loop-node.node-index 0 c.loop-node-test.true)

pub loop-node-preserved : goal.loop-node-preserved
loop-node-preserved c = all_next c.args.nodes.now c.args.marks.now c.loop-node.node-index c.loop-node-test.true c.if-not-marks-node.false c.loop-node.invariant

pub returns : goal.returns
returns c _ = all_done c.args.nodes.now c.args.marks.now c.loop-node.node-index c.loop-node-test.false c.loop-node.invariant
