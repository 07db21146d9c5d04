use Rattle.std.proofs.Common.{◌≡◌, ◌<◌, ◌∙◌, ◌+◌, ◌++◌, ◌∷◌, [], ℕ, List, Some, get_or, length, slice_get, sym, ap, subst, arith, take}
use Rattle.std.proofs.lemmas.List.{take_all, take_more}
use Rattle.std.proofs.lemmas.List.Elements.{Contains-get_or}
use Rattle.std.specs.List.{AllPairs}
use Rattle.flow_ctx.specs.declared.unfolded.ULoop.{ULoop}
use Rattle.cache_class.specs.Chains.{AreChains, HasWithin}
use Rattle.cache_class.proofs.ChainLemmas.{has_by_members, has_within, nested_more, nodes_ascend, nodes_within, pushed_chains}
use Rattle.cache_class.proofs.TableLemmas.{stands_at}
use Rattle.cache_class.proofs.chains.push_all.Goals as goal

pub bounds-as_slice-number : goal.bounds-as_slice-number
bounds-as_slice-number c =
    let i = c.loop-number.number-index in
    let number = get_or c.args.order.now i 0 in
    let inside : i < length c.args.order.now = omega arith in
    omega (arith, c.requires.order number (Contains-get_or c.args.order.now i 0 inside), ap (λ (ls : List ULoop). length ls) c.as_slice.ensures)

pub stay_nested-are_nested-requires : goal.stay_nested-are_nested-requires
stay_nested-are_nested-requires c node there =
    let u = c.args.u.now in
    let i = c.loop-number.number-index in
    let number = get_or c.args.order.now i 0 in
    let inside : i < length c.args.order.now = omega arith in
    let early : number < length u.loops = c.requires.order number (Contains-get_or c.args.order.now i 0 inside) in
    let l = c.index-as_slice-number.result in
    let at : slice_get u.loops number ≡ Some l = stands_at u.loops number l early (c.index-as_slice-number.is ∙ ap (λ (ls : List ULoop). get_or ls number l) c.as_slice.ensures) in
    let members : c.as_slice-members.result.now ≡ l.members = c.as_slice-members.ensures ∙ ap (λ (m : ULoop). m.members) (sym c.index-as_slice-number.is) in
    omega (arith, nodes_within u c.requires.unfolding number l at c.as_slice-members.result.now members node there, c.loop-number.invariant.made.long)

pub push_to_each-requires-clause-nodes : goal.push_to_each-requires-clause-nodes
push_to_each-requires-clause-nodes c node there =
    let u = c.args.u.now in
    let i = c.loop-number.number-index in
    let number = get_or c.args.order.now i 0 in
    let inside : i < length c.args.order.now = omega arith in
    let early : number < length u.loops = c.requires.order number (Contains-get_or c.args.order.now i 0 inside) in
    let l = c.index-as_slice-number.result in
    let at : slice_get u.loops number ≡ Some l = stands_at u.loops number l early (c.index-as_slice-number.is ∙ ap (λ (ls : List ULoop). get_or ls number l) c.as_slice.ensures) in
    let members : c.as_slice-members.result.now ≡ l.members = c.as_slice-members.ensures ∙ ap (λ (m : ULoop). m.members) (sym c.index-as_slice-number.is) in
    omega (arith, nodes_within u c.requires.unfolding number l at c.as_slice-members.result.now members node there, c.loop-number.invariant.made.long)

pub push_to_each-requires-clause-ascending : goal.push_to_each-requires-clause-ascending
push_to_each-requires-clause-ascending c =
    let u = c.args.u.now in
    let i = c.loop-number.number-index in
    let number = get_or c.args.order.now i 0 in
    let inside : i < length c.args.order.now = omega arith in
    let early : number < length u.loops = c.requires.order number (Contains-get_or c.args.order.now i 0 inside) in
    let l = c.index-as_slice-number.result in
    let at : slice_get u.loops number ≡ Some l = stands_at u.loops number l early (c.index-as_slice-number.is ∙ ap (λ (ls : List ULoop). get_or ls number l) c.as_slice.ensures) in
    let members : c.as_slice-members.result.now ≡ l.members = c.as_slice-members.ensures ∙ ap (λ (m : ULoop). m.members) (sym c.index-as_slice-number.is) in
    nodes_ascend u c.requires.unfolding number l at c.as_slice-members.result.now members

pub loop-number-preserved : goal.loop-number-preserved
loop-number-preserved c =
    let u = c.args.u.now in
    let order = c.args.order.now in
    let i = c.loop-number.number-index in
    let number = get_or order i 0 in
    let inside : i < length order = omega arith in
    let early : number < length u.loops = c.requires.order number (Contains-get_or order i 0 inside) in
    let l = c.index-as_slice-number.result in
    let at : slice_get u.loops number ≡ Some l = stands_at u.loops number l early (c.index-as_slice-number.is ∙ ap (λ (ls : List ULoop). get_or ls number l) c.as_slice.ensures) in
    let nodes = c.as_slice-members.result.now in
    let members : nodes ≡ l.members = c.as_slice-members.ensures ∙ ap (λ (m : ULoop). m.members) (sym c.index-as_slice-number.is) in
    let more : take i order ++ number ∷ [] ≡ take (i + 1) order = sym (take_more order i 0 inside) in
    record {
      made = subst (λ (numbers : List ℕ). AreChains u numbers c.push_to_each.new.chains) more
          (pushed_chains u (take i order) number nodes c.loop-number.chains c.push_to_each.new.chains c.loop-number.invariant.made c.in_ok-push_to_each.ensures
          (has_by_members u c.requires.unfolding number l at nodes members));
      nested = λ told. subst (λ (numbers : List ℕ). AllPairs (HasWithin u) numbers) more
          (nested_more u (take i order) number c.loop-number.chains nodes (c.loop-number.invariant.nested (c.stay_nested-are_nested.ensures.before told)) c.loop-number.invariant.made
          (has_within u c.requires.unfolding number l at nodes members) (c.stay_nested-are_nested.ensures.alike told));
    }

pub returns-clause-nested : goal.returns-clause-nested
returns-clause-nested c told =
    let all : take c.loop-number.number-index c.args.order.now ≡ c.args.order.now = take_all c.loop-number.number-index c.args.order.now (omega arith) in
    subst (λ (numbers : List ℕ). AllPairs (HasWithin c.args.u.now) numbers) all (c.loop-number.invariant.nested told)
