use Rattle.cert_prices.proofs.ShapeLemmas.{FirstAscend}
use Rattle.cert_prices.proofs.shape.are_ascending.Given as goal

abbrev pub invariant-loop-number : goal.invariant-loop-number
invariant-loop-number l = FirstAscend l.totals l.number
