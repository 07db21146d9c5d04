use Rattle.std.proofs.Common.{◌≡◌, get_or, List, None, subst, arith}
use Rattle.std.specs.List.{Any}
use Rattle.wx_base.specs.Functions.{fact_of}
use Rattle.graph_loops.specs.declared.loops.Loop.{Loop}
use Rattle.flow_graph.specs.Listing.{IsLeast}
use Rattle.flow_graph.proofs.OutlineLemmas.{HasUnboundedHead, least_unbounded_number, least_more, least_all}
use Rattle.flow_graph.proofs.outline.least_unbounded.Goals as goal

pub loop-outline-preserved : goal.loop-outline-preserved
loop-outline-preserved c =
    let facts = c.args.facts.now in
    let addresses = c.args.addresses.now in
    let outline = c.outline-item.result in
    let first = c.first_unbounded.result in
    let least = subst (λ (loops : List Loop). IsLeast (λ v. Any (λ l. l.head ≡ v) loops × (fact_of facts (get_or addresses v 0) ≡ None)) first) c.as_slice.ensures c.first_unbounded.ensures in
    least_more (HasUnboundedHead facts addresses) c.args.outlines.now c.loop-outline.outline-index outline c.loop-outline.least first c.lesser-least.result
    c.loop-outline-test.true c.outline-item.is c.loop-outline.invariant least c.lesser-least.ensures

pub returns : goal.returns
returns c =
    let facts = c.args.facts.now in
    let addresses = c.args.addresses.now in
    least_unbounded_number facts addresses c.args.outlines.now c.loop-outline.least
    (least_all (HasUnboundedHead facts addresses) c.args.outlines.now c.loop-outline.outline-index c.loop-outline.least (omega (arith, c.loop-outline-test.false)) c.loop-outline.invariant)
