use Rattle.std.proofs.Common.{◌≡◌, List, length, subst, sym, ap, ◌∙◌, arith}
use Rattle.flow_block.specs.declared.block.Slot.{Slot}
use Rattle.cert_prices.specs.Keys.{AreEventCharges, charge_in}
use Rattle.cert_check.specs.Judging.{AreChargesOf}
use Rattle.cert_check.proofs.ChargeLemmas.{kinds_long, charges_of}
use Rattle.cert_check.proofs.ResultLemmas.{ok_more}
use Rattle.std.proofs.lemmas.Option.{same_Some}
use Rattle.cache_class.specs.declared.class.Class.{Class}
use Rattle.cert_check.proofs.charging.charges_at.Goals as goal

pub block-requires : goal.block-requires
block-requires c =
    let s = c.args.subject.now in
    c.nodes_have_blocks.ensures s.unfolded.now.program s.unfolded.now c.args.node c.requires.subject.unfolded.unfolded c.requires.node

pub classes_at-requires : goal.classes_at-requires
classes_at-requires c = omega (arith, c.requires.subject.classed.long, c.requires.node)

pub event_charges-requires : goal.event_charges-requires
event_charges-requires c =
    let s = c.args.subject.now in
    let block = c.block.result.now in
    let kinds = c.classes_at.result.now in
    let events : c.as_slice-events.result.now ≡ block.slots = c.as_slice-events.ensures in
    ap (λ (xs : List Slot). length xs) events
    ∙ kinds_long s.unfolded.now s.machine.now s.classes.now s.certificate.now c.args.node block kinds c.requires.subject c.block.ensures c.classes_at.ensures

pub returns : goal.returns
returns c = λ kinds at.
    let s = c.args.subject.now in
    let u = s.unfolded.now in
    let block = c.block.result.now in
    let found = c.classes_at.result.now in
    let events : c.as_slice-events.result.now ≡ block.slots = c.as_slice-events.ensures in
    let same : found ≡ kinds = same_Some found kinds (sym c.classes_at.ensures ∙ at) in
    ok_more c.event_charges.result (λ amounts. AreEventCharges (charge_in s.charges.now) c.as_slice-events.result.now found amounts.items)
    (λ amounts. AreChargesOf u s.classes.now s.certificate.now c.args.node kinds amounts.items)
    (λ amounts are.
    charges_of u s.machine.now s.classes.now s.certificate.now s.charges.now c.args.node block kinds amounts.items c.requires.subject c.requires.charges
    c.misses_are_charged.ensures (c.blocks_are_timed.ensures.nodes s.machine.now u c.args.node block c.requires.subject.unfolded c.block.ensures).few
    c.block.ensures at
    (subst (λ (ks : List Class). AreEventCharges (charge_in s.charges.now) block.slots ks amounts.items) same
    (subst (λ (es : List Slot). AreEventCharges (charge_in s.charges.now) es found amounts.items) events are)))
    c.event_charges.ensures
