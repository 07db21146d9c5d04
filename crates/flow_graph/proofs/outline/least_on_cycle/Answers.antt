use Rattle.std.proofs.Common.{◌≡◌, Some, arith}
use Rattle.flow_graph.proofs.OutlineLemmas.{least_more, least_itself, least_all}
use Rattle.flow_graph.proofs.outline.least_on_cycle.Goals as goal

pub loop-outline-preserved : goal.loop-outline-preserved
loop-outline-preserved c =
    least_more (λ o v. o.structure.cycle ≡ Some v) c.args.outlines.now c.loop-outline.outline-index c.outline-item.result c.loop-outline.least c.outline-item.result.structure.cycle c.lesser-least.result
    c.loop-outline-test.true c.outline-item.is c.loop-outline.invariant (least_itself c.outline-item.result.structure.cycle) c.lesser-least.ensures

pub returns : goal.returns
returns c =
    least_all (λ o v. o.structure.cycle ≡ Some v) c.args.outlines.now c.loop-outline.outline-index c.loop-outline.least (omega (arith, c.loop-outline-test.false)) c.loop-outline.invariant
