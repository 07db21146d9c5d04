use Rattle.cert_prices.specs.Keys.{charge_in}
use Rattle.cert_prices.proofs.GrownLemmas.{FirstOf}
use Rattle.cert_prices.proofs.KeyLemmas.{IsCharge}
use Rattle.cert_prices.proofs.events.event_charges.Given as goal

abbrev pub invariant-loop-number : goal.invariant-loop-number
invariant-loop-number l = FirstOf (IsCharge (charge_in l.table) l.classes) l.events l.number l.charges.items
