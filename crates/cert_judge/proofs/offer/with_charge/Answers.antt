use Rattle.std.proofs.Common.{arith}
use Rattle.cert_judge.proofs.KeepLemmas.{keeps_self, keeps_twice}
use Rattle.cert_judge.proofs.OfferLemmas.{if_at_most, if_nothing}
use Rattle.cert_judge.proofs.offer.with_charge.Goals as goal

pub returns-then-charge-eq0-clause-times : goal.returns-then-charge-eq0-clause-times
returns-then-charge-eq0-clause-times c = λ f. omega (arith, if_nothing c.args.charge (f c.args.event) c.if-charge-eq0.true)

pub returns-then-charge-eq0-clause-kept : goal.returns-then-charge-eq0-clause-kept
returns-then-charge-eq0-clause-kept c = keeps_self c.args.table.now

pub sum-requires-clause-first : goal.sum-requires-clause-first
sum-requires-clause-first c = let k = c.charge_at.ensures.kept.grows in omega (arith, c.requires.rest, k)

pub sum-requires-clause-fits : goal.sum-requires-clause-fits
sum-requires-clause-fits c = λ f g.
    let rest = c.charge_at.ensures.kept.times f c.args.rest.place c.requires.rest in
    let taken = c.in_ok-charged.ensures.times g in
    let most = if_at_most c.args.charge (g c.args.event) in
    let fits = c.requires.fits f in
    omega (arith, rest, taken, most, fits)

pub returns-clause-kept : goal.returns-clause-kept
returns-clause-kept c = keeps_twice c.args.table.now c.charge_at.new.table c.sum.new.table c.charge_at.ensures.kept c.sum.ensures.kept
