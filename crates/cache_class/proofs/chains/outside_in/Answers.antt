use Rattle.std.proofs.Common.{◌≡◌, ◌≤◌, ◌+◌, ◌-◌, ℕ, List, length, sym, subst, arith}
use Rattle.cache_class.specs.Chains.{AreListed}
use Rattle.cache_class.proofs.OrderLemmas.{AreDown, down_all, down_listed, down_none, listed_down}
use Rattle.cache_class.proofs.chains.outside_in.Goals as goal

pub loop-fewer-init : goal.loop-fewer-init
loop-fewer-init c = subst (λ (order : List ℕ). AreDown c.args.u.now 0 order) (sym c.in_ok-order.ensures.items) (down_none c.args.u.now c.requires.unfolding)

pub push_of_size-requires-clause-larger : goal.push_of_size-requires-clause-larger
push_of_size-requires-clause-larger c =
    let u = c.args.u.now in
    let fewer = c.loop-fewer.fewer in
    let few : fewer ≤ length u.nodes = omega (arith, c.loop-fewer-test.true, c.len-most.ensures) in
    subst (λ (n : ℕ). AreListed u (n - fewer) 0 c.loop-fewer.order.items) (sym c.len-most.ensures) (down_listed u fewer c.loop-fewer.order.items few c.loop-fewer.invariant)

pub loop-fewer-preserved : goal.loop-fewer-preserved
loop-fewer-preserved c =
    let u = c.args.u.now in
    let fewer = c.loop-fewer.fewer in
    let few : fewer ≤ length u.nodes = omega (arith, c.loop-fewer-test.true, c.len-most.ensures) in
    let order = c.push_of_size.new.order.items in
    listed_down u fewer order few (subst (λ (n : ℕ). AreListed u (n - fewer) (length u.loops) order) c.len-most.ensures c.in_ok-push_of_size.ensures)

pub returns : goal.returns
returns c =
    let u = c.args.u.now in
    let all : c.loop-fewer.fewer ≡ length u.nodes + 1 = omega arith in
    down_all u c.loop-fewer.order.items (subst (λ (n : ℕ). AreDown u n c.loop-fewer.order.items) all c.loop-fewer.invariant)
