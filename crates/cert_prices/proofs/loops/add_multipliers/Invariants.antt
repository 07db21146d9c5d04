use Rattle.cert_prices.proofs.MultiplierLemmas.{FirstGrown}
use Rattle.cert_prices.proofs.loops.add_multipliers.Given as goal

abbrev pub invariant-loop-number : goal.invariant-loop-number
invariant-loop-number l = FirstGrown l.loops l.multipliers l.initial.prices l.number l.prices
