use Rattle.std.proofs.Common.{sym, subst, arith}
use Rattle.std.proofs.lemmas.Option.{slice_get-get_or}
use Rattle.cert_prices.proofs.KeyLemmas.{FirstCharges, all_charged, none_charged, one_charged}
use Rattle.cert_prices.proofs.events.ChargeTable.new.Goals as goal

pub loop-charge-init : goal.loop-charge-init
loop-charge-init c = subst (FirstCharges c.args.charges.now 0) (sym c.new-table.ensures.empty) (none_charged c.args.charges.now)

pub loop-charge-preserved : goal.loop-charge-preserved
loop-charge-preserved c =
    let charges = c.args.charges.now in
    let i = c.loop-charge.charge-index in
    one_charged charges c.requires i _ (slice_get-get_or charges i _ c.loop-charge-test.true) c.loop-charge.table.entries c.insert_charge.new.table.entries
    c.in_ok-insert_charge.ensures c.loop-charge.invariant

pub returns : goal.returns
returns c = all_charged c.args.charges.now c.loop-charge.charge-index c.loop-charge.table.entries (omega arith) c.loop-charge.invariant
