use Rattle.std.proofs.Common.{◌≡◌, ◌+◌, ◌<◌, ℕ, List, length, get_or, ap, sym, subst, ◌∙◌, arith}
use Rattle.std.proofs.lemmas.List.{get_or_default}
use Rattle.path_graph.specs.Graph.{loop_at}
use Rattle.path_problem.specs.Need.{need_tolls}
use Rattle.path_problem.specs.Part.{IsSmallNeed, NoneServes}
use Rattle.path_problem.proofs.NetLemmas.{at_some}
use Rattle.path_problem.proofs.NeedLemmas.{NeedsSoFar, no_needs, need_added}
use Rattle.path_problem.proofs.needs.needs_within.Goals as goal

pub loop-number-init : goal.loop-number-init
loop-number-init c =
    let P : List ℕ → Type 0 = λ needs. NeedsSoFar c.args.layout.now.graph.now c.args.chosen.now 0 needs c.own_weights.new.weights c.own_weights.new.stamps in
    subst P (sym c.in_ok-needs.ensures.items) (no_needs c.args.layout.now.graph.now c.args.chosen.now c.own_weights.new.weights c.own_weights.new.stamps c.own_weights.ensures.weights c.own_weights.ensures.within c.own_weights.ensures.fresh)

pub loop-number-preserved : goal.loop-number-preserved
loop-number-preserved c =
    let g = c.args.layout.now.graph.now in
    let l = c.loop-number.number in
    let chosen = c.args.chosen.now in
    let needs = c.loop-number.needs.items in
    let short : l < length g.loops = omega arith in
    let arcs = c.index-as_slice-number.result in
    let is : arcs ≡ loop_at g l = c.index-as_slice-number.is ∙ ap (λ ls. get_or ls l arcs) c.as_slice.ensures ∙ get_or_default g.loops l arcs _ short in
    let need = at_some (NoneServes g chosen needs) (IsSmallNeed g chosen needs) c.in-Some.is (c.in_ok-need.ensures.at_needs chosen needs c.loop-number.invariant.count c.loop-number.invariant.weights_are) in
    let P : List ℕ → Type 0 = λ after. NeedsSoFar g chosen (l + 1) after c.add_toll.new.weights c.add_toll.new.stamps in
    subst P (sym c.in_ok-push-in-Some.ensures.items)
    (need_added g chosen l needs c.in-Some.need arcs c.turns_of.result c.loop-number.weights c.add_toll.new.weights c.loop-number.stamps c.add_toll.new.stamps c.loop-number.invariant short need is c.turns_of.ensures.turns
    (c.add_toll.ensures.weights g (need_tolls g chosen needs) c.loop-number.invariant.weights_are) c.add_toll.ensures.within c.add_toll.ensures.used)
