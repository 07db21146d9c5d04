use Rattle.std.proofs.Common.{◌≡◌, ◌+◌, ◌<◌, List, length, get_or, slice_get, Some, subst, sym, ap, ◌∙◌, arith}
use Rattle.std.specs.Global.{Vec}
use Rattle.std.proofs.lemmas.Option.{slice_get-get_or}
use Rattle.flow_block.specs.declared.block.Slot.{Slot}
use Rattle.flow_block.specs.declared.block.SlotKind.TheVariants.{Fetch}
use Rattle.cache_class.specs.declared.class.Class.TheVariants.{AlwaysHit}
use Rattle.state_charges.specs.declared.miss.Miss.{Miss}
use Rattle.state_charges.proofs.MissLemmas.{FirstMisses, all_misses, no_misses, none_more, one_more}
use Rattle.state_charges.proofs.places.misses_of.Goals as goal
use Rattle.state_charges.proofs.places.misses_of.Goals.{in-Some+in_ok-push, in_default}

abbrev no_slot : Slot
no_slot = record { at = 0; kind = Fetch 0 }

pub loop-event-init : goal.loop-event-init
loop-event-init c =
    subst (FirstMisses c.args.places.now.groups c.args.slots.now c.args.classes.now 0) (sym c.new-misses.ensures.items)
    (no_misses c.args.places.now.groups c.args.slots.now c.args.classes.now)

pub loop-event-preserved : goal.loop-event-preserved
loop-event-preserved c =
    let groups = c.args.places.now.groups in
    let entries = c.args.places.now.places.entries in
    let slots = c.args.slots.now in
    let classes = c.args.classes.now in
    let n = c.loop-event.event in
    let within : n < length classes = omega (arith, c.requires.long) in
    let at : slice_get slots n ≡ Some (get_or slots n no_slot) = slice_get-get_or slots n no_slot c.loop-event-test.true in
    let there : slice_get classes n ≡ Some (get_or classes n AlwaysHit) = slice_get-get_or classes n AlwaysHit within in
    elim c.match-of_event.branch [
      | in-Some+in_ok-push w ↦
          subst (λ (ms : List Miss). FirstMisses groups slots classes (n + 1) ms) (sym (ap (λ (v : Vec Miss). v.items) w.misses-is ∙ w.in_ok-push.ensures.items))
          (one_more groups entries c.requires.places slots classes n (get_or slots n no_slot) (get_or classes n AlwaysHit) at there c.loop-event.misses.items
          c.loop-event.invariant w.in-Some.group (sym c.of_event.ensures ∙ w.in-Some.is))
      | in_default w ↦
          subst (λ (ms : List Miss). FirstMisses groups slots classes (n + 1) ms) (sym (ap (λ (v : Vec Miss). v.items) w.misses-is))
          (none_more groups entries c.requires.places slots classes n (get_or slots n no_slot) (get_or classes n AlwaysHit) at there c.loop-event.misses.items
          c.loop-event.invariant (sym c.of_event.ensures ∙ w.in_default.is))
    ]

pub returns : goal.returns
returns c = all_misses c.args.places.now.groups c.args.slots.now c.args.classes.now c.loop-event.event c.loop-event.misses.items (omega arith) c.loop-event.invariant
