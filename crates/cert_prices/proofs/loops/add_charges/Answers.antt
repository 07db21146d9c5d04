use Rattle.std.proofs.Common.{◌<◌, ◌^◌, length, refl, arith, rules}
use Rattle.flow_ctx.specs.declared.scope.Scope.TheVariants.{Run}
use Rattle.cert_text.specs.declared.certificate.Charge.{Charge}
use Rattle.cert_prices.proofs.BoundLemmas.{all_summed, room_for, sums_bound, wider}
use Rattle.cert_prices.proofs.ChargeLemmas.{no_charges, one_more}
use Rattle.cert_prices.proofs.ReadLemmas.{same_read}
use Rattle.cert_prices.proofs.loops.add_charges.Goals as goal

abbrev no_charge : Charge
no_charge = record { line = 0; scope = Run; amount = 0 }

pub loop-charge-init : goal.loop-charge-init
loop-charge-init c = no_charges (length c.args.sums.now) c.args.sums.now refl c.requires.none

pub add_charge-requires : goal.add_charge-requires
add_charge-requires c =
    let charges = c.args.charges.now in
    let short : length charges < 2 ^ 63 = search rules in
    record {
      room = room_for charges c.loop-charge.charge-index (length c.args.sums.now) c.loop-charge.sums no_charge c.requires.small short c.loop-charge-test.true c.loop-charge.invariant;
    }

pub loop-charge-preserved : goal.loop-charge-preserved
loop-charge-preserved c =
    one_more c.args.charges.now c.loop-charge.charge-index (length c.args.sums.now) _ no_charge c.loop-charge.sums c.add_charge.new.sums c.loop-charge-test.true
    (same_read c.args.charges.now c.loop-charge.charge-index _ no_charge c.loop-charge-test.true) c.loop-charge.invariant c.add_charge.ensures

pub returns-clause-charges : goal.returns-clause-charges
returns-clause-charges c = all_summed c.args.charges.now c.loop-charge.charge-index (length c.args.sums.now) c.loop-charge.sums (omega arith) c.loop-charge.invariant

pub returns-clause-bound : goal.returns-clause-bound
returns-clause-bound c =
    let charges = c.args.charges.now in
    let short : length charges < 2 ^ 63 = search rules in
    wider c.loop-charge.sums (sums_bound charges c.loop-charge.charge-index (length c.args.sums.now) c.loop-charge.sums c.requires.small short c.loop-charge.invariant)
