use Rattle.std.proofs.Common.{◌<◌, ◌^◌, length, refl, ◌∙◌, arith, rules}
use Rattle.flow_ctx.specs.declared.scope.Scope.TheVariants.{Run}
use Rattle.cert_prices.proofs.BoundLemmas.{front_bound}
use Rattle.cert_prices.proofs.ChargeLemmas.{run_more}
use Rattle.cert_prices.proofs.start.run_charges.Goals as goal

pub overflow_add-sum : goal.overflow_add-sum
overflow_add-sum c =
    let charges = c.args.charges.now in
    let short : length charges < 2 ^ 63 = search rules in
    let sum = front_bound charges c.loop-charge.charge-index Run c.requires.small short in
    let is = c.loop-charge.invariant in
    omega (arith, sum, is)

pub loop-charge-preserved : goal.loop-charge-preserved
loop-charge-preserved c =
    run_more c.args.charges.now c.loop-charge.charge-index c.from-sum.result c.loop-charge.sum _ _ c.loop-charge-test.true (c.from-sum.ensures ∙ c.run_amount.ensures) c.loop-charge.invariant refl

pub returns-clause-bound : goal.returns-clause-bound
returns-clause-bound c =
    let charges = c.args.charges.now in
    let short : length charges < 2 ^ 63 = search rules in
    let sum = front_bound charges c.loop-charge.charge-index Run c.requires.small short in
    let is = c.loop-charge.invariant in
    omega (arith, sum, is)
