use Rattle.std.proofs.Common.{◌<◌, ◌+◌, ℕ, List, [], length, get_or, subst, sym, arith}
use Rattle.std.proofs.lemmas.Option.{slice_get-get_or}
use Rattle.flow_block.specs.declared.block.Slot.{Slot}
use Rattle.flow_block.specs.declared.block.SlotKind.TheVariants.{Fetch}
use Rattle.flow_ctx.specs.declared.unfolded.UNode.{UNode}
use Rattle.cache_class.specs.declared.class.Class.{Class}
use Rattle.cache_class.specs.Tables.{place_behind}
use Rattle.cache_class.proofs.EventLemmas.{EventsSoFar, access_of, events_more, few_before}
use Rattle.cache_class.proofs.events.node_classes.Goals as goal

pub event_class-requires-clause-access : goal.event_class-requires-clause-access
event_class-requires-clause-access c line kind =
    let u = c.args.tables.now.u.now in
    let slots = c.slots_at-slots.result.now in
    let i = c.loop-slot.slot-index in
    let nothing : Slot = record { at = 0; kind = Fetch 0 } in
    let nowhere : UNode = record { chain = []; function = 0; block = 0 } in
    let stands = slice_get-get_or u.nodes c.args.node nowhere c.requires.node in
    let inside : i < length slots = omega arith in
    access_of u c.args.tables.now.flow c.args.node (get_or u.nodes c.args.node nowhere) slots i c.loop-slot.place (get_or slots i nothing) line c.requires.tables.of stands
    (c.slots_at-slots.ensures (get_or u.nodes c.args.node nowhere) stands) c.loop-slot.invariant.behind (slice_get-get_or slots i nothing inside) kind

pub place_behind-place-requires : goal.place_behind-place-requires
place_behind-place-requires c =
    omega (arith, few_before c.slots_at-slots.result.now c.loop-slot.slot-index c.loop-slot.place c.loop-slot.invariant.behind)

pub loop-slot-preserved : goal.loop-slot-preserved
loop-slot-preserved c =
    let u = c.args.tables.now.u.now in
    let machine = c.args.machine.now in
    let flow = c.args.tables.now.flow in
    let slots = c.slots_at-slots.result.now in
    let i = c.loop-slot.slot-index in
    let nothing : Slot = record { at = 0; kind = Fetch 0 } in
    let slot = get_or slots i nothing in
    let class = c.in_ok-event_class.field-0 in
    let classes = c.loop-slot.classes.items in
    let inside : i < length slots = omega arith in
    let more = events_more machine u flow c.args.node slots i c.loop-slot.place classes slot class c.loop-slot.invariant (slice_get-get_or slots i nothing inside) c.in_ok-event_class.ensures in
    subst (λ (p : ℕ). EventsSoFar machine u flow c.args.node slots (i + 1) p c.push.new.self.items) (sym c.place_behind-place.ensures)
    (subst (λ (cs : List Class). EventsSoFar machine u flow c.args.node slots (i + 1) (place_behind c.loop-slot.place slot.kind) cs) (sym c.in_ok-push.ensures.items) more)
