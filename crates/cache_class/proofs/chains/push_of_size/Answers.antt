use Rattle.std.proofs.Common.{◌≡◌, ◌<◌, ◌∙◌, ◌+◌, [], ℕ, List, None, Some, get_or, length, slice_get, sym, ap, subst, arith}
use Rattle.flow_ctx.specs.declared.scope.Scope.TheVariants.{Loop}
use Rattle.flow_ctx.specs.declared.unfolded.ULoop.{ULoop}
use Rattle.cache_class.specs.Classes.{size_of}
use Rattle.cache_class.specs.Chains.{AreListed}
use Rattle.cache_class.proofs.OrderLemmas.{listed_push, listed_skip, size_is}
use Rattle.cache_class.proofs.TableLemmas.{few_loops, stands_at}
use Rattle.cache_class.proofs.chains.push_of_size.Goals as goal

pub loop-number-preserved-then-len-size : goal.loop-number-preserved-then-len-size
loop-number-preserved-then-len-size c =
    let u = c.args.u.now in
    let number = c.loop-number.number in
    let l = c.index-loops-number.result in
    let inside : number < length u.loops = omega (arith, c.loop-number-test.true, ap (λ (ls : List ULoop). length ls) c.as_slice-loops.ensures) in
    let at : slice_get u.loops number ≡ Some l = stands_at u.loops number l inside (c.index-loops-number.is ∙ ap (λ (ls : List ULoop). get_or ls number l) c.as_slice-loops.ensures) in
    let size : size_of u (Loop number) ≡ c.len.result = size_is u number l at ∙ ap (λ (m : ULoop). length m.members) c.index-loops-number.is ∙ sym c.len.ensures in
    listed_skip u c.args.size number c.loop-number.order.items c.loop-number.invariant (λ e. c.if-len-size.true (sym size ∙ e))

pub overflow_cast-number : goal.overflow_cast-number
overflow_cast-number c =
    let u = c.args.u.now in
    let inside : c.loop-number.number < length u.loops = omega (arith, c.loop-number-test.true, ap (λ (ls : List ULoop). length ls) c.as_slice-loops.ensures) in
    let nowhere : ULoop = record { head = 0; members = []; back = []; entries = []; maxcount = 0; totalcount = None } in
    omega (arith, few_loops u.nodes u.program u.edges u.loops c.requires.unfolding.loops nowhere c.loop-number.number inside, c.requires.few)

pub loop-number-preserved : goal.loop-number-preserved
loop-number-preserved c =
    let u = c.args.u.now in
    let number = c.loop-number.number in
    let l = c.index-loops-number.result in
    let inside : number < length u.loops = omega (arith, c.loop-number-test.true, ap (λ (ls : List ULoop). length ls) c.as_slice-loops.ensures) in
    let at : slice_get u.loops number ≡ Some l = stands_at u.loops number l inside (c.index-loops-number.is ∙ ap (λ (ls : List ULoop). get_or ls number l) c.as_slice-loops.ensures) in
    let size : size_of u (Loop number) ≡ c.len.result = size_is u number l at ∙ ap (λ (m : ULoop). length m.members) c.index-loops-number.is ∙ sym c.len.ensures in
    subst (λ (order : List ℕ). AreListed u c.args.size (number + 1) order) (sym c.in_ok-push.ensures.items)
    (listed_push u c.args.size number c.loop-number.order.items c.loop-number.invariant (size ∙ c.if-len-size.false) inside)
