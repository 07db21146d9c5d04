use Rattle.std.proofs.Common.{◌≡◌, List, length, sym, ap, ◌∙◌, arith}
use Rattle.std.proofs.lemmas.Option.{same_Some}
use Rattle.flow_block.specs.declared.block.Slot.{Slot}
use Rattle.state_charges.proofs.EdgeLemmas.{kinds_long, ok_misses}
use Rattle.state_charges.proofs.edges.misses_at.Goals as goal

pub block-requires : goal.block-requires
block-requires c =
    let s = c.args.subject.now in
    c.nodes_have_blocks.ensures s.unfolded.now.program s.unfolded.now c.args.node c.requires.subject.unfolded.unfolded c.requires.node

pub classes_at-requires : goal.classes_at-requires
classes_at-requires c = omega (arith, c.requires.subject.classed.long, c.requires.node)

pub misses_of-requires-clause-few : goal.misses_of-requires-clause-few
misses_of-requires-clause-few c =
    let s = c.args.subject.now in
    let block = c.block.result.now in
    let events : length c.as_slice-events.result.now ≡ length block.slots = ap (λ (xs : List Slot). length xs) c.as_slice-events.ensures in
    let timed = c.blocks_are_timed.ensures.nodes s.machine.now s.unfolded.now c.args.node block c.requires.subject.unfolded c.block.ensures in
    omega (arith, events, timed.few)

pub misses_of-requires-clause-long : goal.misses_of-requires-clause-long
misses_of-requires-clause-long c =
    let s = c.args.subject.now in
    let block = c.block.result.now in
    let events : length c.as_slice-events.result.now ≡ length block.slots = ap (λ (xs : List Slot). length xs) c.as_slice-events.ensures in
    kinds_long s.unfolded.now s.machine.now s.classes.now c.args.node block c.classes_at.result.now c.requires.subject.classed c.block.ensures c.classes_at.ensures ∙ sym events

pub returns : goal.returns
returns c = λ block kinds is at.
    let u = c.args.subject.now.unfolded.now in
    let found = c.classes_at.result.now in
    ok_misses u c.args.node c.args.places.now.groups c.block.result.now block c.as_slice-events.result.now found kinds c.misses_of.result
    c.block.ensures is c.as_slice-events.ensures (same_Some found kinds (sym c.classes_at.ensures ∙ at)) c.misses_of.ensures
