use Rattle.std.proofs.Common.{◌≡◌, ◌<◌, List, [], ◌∷◌, ◌++◌, take, length, get_or, ap, sym, subst, ◌∙◌, arith}
use Rattle.std.proofs.lemmas.List.{get_or_default}
use Rattle.path_graph.specs.Graph.{loop_at}
use Rattle.path_problem.specs.Weight.{Toll, price_tolls}
use Rattle.path_problem.specs.Window.{AreWeights}
use Rattle.path_problem.proofs.TollLemmas.{toll_is, one_toll, all_tolls}
use Rattle.path_problem.proofs.window.full_weights.Goals as goal

pub loop-number-preserved : goal.loop-number-preserved
loop-number-preserved c =
    let g = c.args.graph.now in
    let prices = c.args.prices.now in
    let l = c.loop-number.number in
    let short : l < length g.loops = omega arith in
    let arcs = c.index-as_slice-number.result in
    let is : arcs ≡ loop_at g l = c.index-as_slice-number.is ∙ ap (λ ls. get_or ls l arcs) c.as_slice.ensures ∙ get_or_default g.loops l arcs _ short in
    let price = ap (λ ps. get_or ps l 0) c.as_slice-in-loop-number.ensures in
    let toll = toll_is g prices arcs _ c.total_price.result l is price c.total_price.ensures.price in
    let F : List Toll → Type 0 = λ ts. AreWeights g ts c.args.first c.add_toll.new.weights in
    let G : Toll → Type 0 = λ t. AreWeights g (take l (price_tolls g prices) ++ t ∷ []) c.args.first c.add_toll.new.weights in
    record {
      weights_are = subst F (sym (one_toll g prices l c.requires.prices short)) (subst G toll (c.add_toll.ensures.weights g (take l (price_tolls g prices)) c.loop-number.invariant.weights_are));
      small = c.add_toll.ensures.within;
      used = c.add_toll.ensures.used;
    }

pub returns-clause-weights : goal.returns-clause-weights
returns-clause-weights c =
    let F : List Toll → Type 0 = λ t. AreWeights c.args.graph.now t c.args.first c.loop-number.weights in
    subst F (all_tolls c.args.graph.now c.args.prices.now c.loop-number.number c.requires.prices (omega arith)) c.loop-number.invariant.weights_are
