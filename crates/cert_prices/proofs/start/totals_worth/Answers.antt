use Rattle.std.proofs.Common.{arith, refl}
use Rattle.cert_text.specs.declared.certificate.TotalPrice.{TotalPrice}
use Rattle.cert_prices.proofs.CountLemmas.{all_worth, none_worth, one_worth, place_below}
use Rattle.cert_prices.proofs.start.totals_worth.Goals as goal

abbrev no_total : TotalPrice
no_total = record { address = 0; amount = 0 }

pub loop-total-init : goal.loop-total-init
loop-total-init c = none_worth c.args.counts.now c.args.totals.now

pub overflow_add-sum : goal.overflow_add-sum
overflow_add-sum c =
    let place = place_below c.args.totals.now c.loop-total.total-index no_total c.requires.ascending c.loop-total-test.true in
    let address = c.total_worth-sum.ensures.address in
    let bound = c.loop-total.invariant.bound in
    let one = c.total_worth-sum.ensures.bound in
    omega (arith, place, address, bound, one)

pub loop-total-preserved : goal.loop-total-preserved
loop-total-preserved c =
    let place = place_below c.args.totals.now c.loop-total.total-index no_total c.requires.ascending c.loop-total-test.true in
    let address = c.total_worth-sum.ensures.address in
    one_worth c.args.counts.now c.args.totals.now c.loop-total.total-index c.loop-total.sum c.total_worth-sum.result _ no_total c.loop-total-test.true
    (omega (arith, place, address)) c.loop-total.invariant c.total_worth-sum.ensures.worth c.total_worth-sum.ensures.bound refl

pub returns-clause-sum : goal.returns-clause-sum
returns-clause-sum c = all_worth c.args.counts.now c.args.totals.now c.loop-total.total-index c.loop-total.sum (omega arith) c.loop-total.invariant

pub returns-clause-bound : goal.returns-clause-bound
returns-clause-bound c =
    let bound = c.loop-total.invariant.bound in
    let few = c.loop-total.invariant.few in
    omega (arith, bound, few)
