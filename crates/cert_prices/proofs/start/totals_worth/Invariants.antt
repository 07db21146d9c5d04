use Rattle.cert_prices.proofs.CountLemmas.{FirstWorth}
use Rattle.cert_prices.proofs.start.totals_worth.Given as goal

abbrev pub invariant-loop-total : goal.invariant-loop-total
invariant-loop-total l = FirstWorth l.counts l.totals l.total-index l.sum
