use Rattle.std.proofs.Common.{◌≡◌, ◌<◌, ◌∙◌, ◌+◌, List, get_or, length, slice_get, Some, subst, sym, ap, arith}
use Rattle.cache_kept.specs.declared.stretch.Stretch.{Stretch}
use Rattle.flow_ctx.specs.declared.unfolded.ULoop.{ULoop}
use Rattle.cache_class.specs.Tables.{AreReady}
use Rattle.cache_class.proofs.ReadyLemmas.{loop_head, loop_nodes, loop_ready, ready_more}
use Rattle.cache_class.proofs.TableLemmas.{stands_at}
use Rattle.cache_class.proofs.solving.loops_of.Goals as goal

pub new-requires-clause-members : goal.new-requires-clause-members
new-requires-clause-members c =
    let u = c.args.u.now in
    let i = c.loop-l.l-index in
    let l = c.l-item.result in
    let inside : i < length u.loops = omega (arith, c.loop-l-test.true, ap (λ (ls : List ULoop). length ls) c.as_slice-l-items.ensures) in
    let at : slice_get u.loops i ≡ Some l = stands_at u.loops i l inside (c.l-item.is ∙ ap (λ (ls : List ULoop). get_or ls i l) c.as_slice-l-items.ensures) in
    loop_nodes u c.args.flow.now c.requires.of c.requires.unfolding i l at c.as_slice.result.now c.as_slice.ensures

pub new-requires-clause-head : goal.new-requires-clause-head
new-requires-clause-head c =
    let u = c.args.u.now in
    let i = c.loop-l.l-index in
    let l = c.l-item.result in
    let inside : i < length u.loops = omega (arith, c.loop-l-test.true, ap (λ (ls : List ULoop). length ls) c.as_slice-l-items.ensures) in
    let at : slice_get u.loops i ≡ Some l = stands_at u.loops i l inside (c.l-item.is ∙ ap (λ (ls : List ULoop). get_or ls i l) c.as_slice-l-items.ensures) in
    loop_head u c.args.flow.now c.requires.of c.requires.unfolding i l at

pub loop-l-preserved : goal.loop-l-preserved
loop-l-preserved c =
    let u = c.args.u.now in
    let flow = c.args.flow.now in
    let i = c.loop-l.l-index in
    let l = c.l-item.result in
    let inside : i < length u.loops = omega (arith, c.loop-l-test.true, ap (λ (ls : List ULoop). length ls) c.as_slice-l-items.ensures) in
    let at : slice_get u.loops i ≡ Some l = stands_at u.loops i l inside (c.l-item.is ∙ ap (λ (ls : List ULoop). get_or ls i l) c.as_slice-l-items.ensures) in
    subst (λ (loops : List Stretch). AreReady u flow (i + 1) loops) (sym c.in_ok-push.ensures.items)
    (ready_more u flow i c.loop-l.loops.items c.in_ok-new.field-0 c.loop-l.invariant
    (loop_ready u flow c.requires.of c.requires.unfolding i l at c.in_ok-new.field-0 c.as_slice.result.now c.as_slice.ensures
    c.in_ok-new.ensures.members c.in_ok-new.ensures.is))
