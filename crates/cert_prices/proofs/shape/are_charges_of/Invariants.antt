use Rattle.cert_prices.proofs.ShapeLemmas.{FirstMatch}
use Rattle.cert_prices.proofs.shape.are_charges_of.Given as goal

abbrev pub invariant-loop-number : goal.invariant-loop-number
invariant-loop-number l = FirstMatch l.charges l.groups l.number
