use Rattle.cert_prices.proofs.KeyLemmas.{FirstCharges}
use Rattle.cert_prices.proofs.events.ChargeTable.new.Given as goal

abbrev pub invariant-loop-charge : goal.invariant-loop-charge
invariant-loop-charge l = FirstCharges l.charges l.charge-index l.table.entries
