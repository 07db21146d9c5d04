use Rattle.std.proofs.Common.{◌<◌, ◌≡◌, length, get_or, subst, sym, arith}
use Rattle.std.proofs.lemmas.Option.{slice_get-get_or}
use Rattle.flow_block.specs.declared.block.Slot.{Slot}
use Rattle.flow_block.specs.declared.block.SlotKind.TheVariants.{Fetch}
use Rattle.cert_prices.specs.Keys.{charge_in}
use Rattle.cert_prices.proofs.GrownLemmas.{FirstOf, none_of, one_of}
use Rattle.cert_prices.proofs.KeyLemmas.{IsCharge, all_events, is_charge}
use Rattle.cert_prices.proofs.events.event_charges.Goals as goal

abbrev no_slot : Slot
no_slot = record { at = 0; kind = Fetch 0 }

pub loop-number-init : goal.loop-number-init
loop-number-init c =
    let P = IsCharge (charge_in c.args.table.now) c.args.classes.now in
    subst (FirstOf P c.args.events.now 0) (sym c.new-charges.ensures.items) (none_of P c.args.events.now)

pub loop-number-preserved : goal.loop-number-preserved
loop-number-preserved c =
    let charge = charge_in c.args.table.now in
    let events = c.args.events.now in
    let classes = c.args.classes.now in
    let i = c.loop-number.number in
    let event = get_or events i no_slot in
    let within : i < length classes = omega (arith, c.requires) in
    let is = is_charge charge classes i event _ c.event_charge.result (slice_get-get_or classes i _ within) c.event_charge.ensures in
    one_of (IsCharge charge classes) events i event c.event_charge.result c.loop-number.charges.items _ (slice_get-get_or events i no_slot c.loop-number-test.true) is c.loop-number.invariant
    c.in_ok-push.ensures.items

pub returns : goal.returns
returns c =
    let charge = charge_in c.args.table.now in
    let done : c.loop-number.number ≡ length c.args.events.now = omega arith in
    all_events charge c.args.events.now c.args.classes.now c.loop-number.charges.items
    (subst (λ n. FirstOf (IsCharge charge c.args.classes.now) c.args.events.now n c.loop-number.charges.items) done c.loop-number.invariant)
