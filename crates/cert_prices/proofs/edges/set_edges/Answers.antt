use Rattle.std.proofs.Common.{get_or, refl, arith}
use Rattle.cert_prices.proofs.SetLemmas.{all_set, none_set, one_set}
use Rattle.cert_prices.proofs.edges.set_edges.Goals as goal

pub loop-edge-init : goal.loop-edge-init
loop-edge-init c = none_set c.args.amount c.args.amounts.now

pub bounds-amounts-edge : goal.bounds-amounts-edge
bounds-amounts-edge c =
    let within = c.requires c.loop-edge.edge-index 0 c.loop-edge-test.true in
    let long = c.loop-edge.invariant.long in
    omega (arith, within, long)

pub loop-edge-preserved : goal.loop-edge-preserved
loop-edge-preserved c =
    let within = c.requires c.loop-edge.edge-index 0 c.loop-edge-test.true in
    let long = c.loop-edge.invariant.long in
    one_set c.args.edges.now c.loop-edge.edge-index (get_or c.args.edges.now c.loop-edge.edge-index 0) c.args.amount c.args.amounts.now c.loop-edge.amounts _
    c.loop-edge-test.true refl (omega (arith, within, long)) c.loop-edge.invariant refl

pub returns : goal.returns
returns c = all_set c.args.edges.now c.loop-edge.edge-index c.args.amount c.args.amounts.now c.loop-edge.amounts (omega arith) c.loop-edge.invariant
