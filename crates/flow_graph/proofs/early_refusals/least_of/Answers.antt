use Rattle.std.proofs.Common.{◌∷◌, [], arith, subst, take, get_or}
use Rattle.std.proofs.lemmas.List.{take_more, take_all}
use Rattle.flow_graph.specs.Reached.{IsLeastWith}
use Rattle.flow_graph.proofs.OutsideLemmas.{with_none, with_both}
use Rattle.flow_graph.proofs.early_refusals.least_of.Goals as goal

pub loop-address-init : goal.loop-address-init
loop-address-init c = with_none c.args.image.now c.args.least

pub loop-address-preserved : goal.loop-address-preserved
loop-address-preserved c =
    let i = c.loop-address.address-index in
    let xs = c.args.addresses.now in
    rw (take_more xs i 0 c.loop-address-test.true)
    (with_both c.args.image.now (take i xs) (get_or xs i 0 ∷ []) c.args.least c.loop-address.least c.least_with-least.result c.loop-address.invariant c.least_with-least.ensures)

pub returns : goal.returns
returns c = subst (λ l. IsLeastWith c.args.image.now l c.args.least c.loop-address.least) (take_all c.loop-address.address-index c.args.addresses.now (omega arith)) c.loop-address.invariant
