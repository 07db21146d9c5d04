use Rattle.cert_prices.proofs.StartLemmas.{no_bound, told_bound}
use Rattle.cert_prices.proofs.bound.has_bound.Goals as goal

pub returns-in-Some : goal.returns-in-Some
returns-in-Some c =
    told_bound c.args.u.now c.args.c.now c.in-Some.v.now c.in_ok-paid.paid c.is_bound_of.result c.in-Some.ensures c.in_ok-paid.ensures.paid c.is_bound_of.ensures

pub returns-in-None : goal.returns-in-None
returns-in-None c = no_bound c.args.u.now c.args.c.now c.in-None.ensures
