use Rattle.std.proofs.Common.{◌≡◌, ◌<◌, ◌++◌, ℕ, Bool, cond, List, [], ◌∷◌, map, take, length, get_or, ap, sym, ◌∙◌, arith}
use Rattle.std.specs.List.{zip}
use Rattle.std.proofs.lemmas.List.{get_or_default, take_all}
use Rattle.std.proofs.lemmas.Slice.Zip.{length-zip}
use Rattle.path_graph.specs.declared.graph.LoopArcs.{LoopArcs}
use Rattle.path_graph.specs.Graph.{loop_at}
use Rattle.path_problem.specs.Need.{is_chosen, loop_price}
use Rattle.path_problem.proofs.NeedLemmas.{pairs_more, prices_more}
use Rattle.path_problem.proofs.needs.loop_prices.Goals.{then-paid, else-paid}
use Rattle.path_problem.proofs.needs.loop_prices.Goals as goal

pub loop-number-preserved : goal.loop-number-preserved
loop-number-preserved c =
    let g = c.args.graph.now in
    let l = c.loop-number.number in
    let chosen = c.args.chosen.now in
    let needs = c.args.needs.now in
    let within : l < length needs = omega arith in
    let short : l < length g.loops = omega arith in
    let arcs = c.index-as_slice-number.result in
    let need = get_or needs l 0 in
    let same : is_chosen chosen (get_or c.as_slice.result.now l arcs).total ≡ is_chosen chosen (loop_at g l).total = ap (λ (ls : List LoopArcs). is_chosen chosen (get_or ls l arcs).total) c.as_slice.ensures ∙ ap (λ (a : LoopArcs). is_chosen chosen a.total) (get_or_default g.loops l arcs _ short) in
    let paid : is_chosen chosen (loop_at g l).total ≡ c.is_paid-paid.result = sym (c.is_paid-paid.ensures ∙ same) in
    let pushed : c.if-paid.push ≡ loop_price chosen (loop_at g l, need) = elim c.if-paid.branch [
      | then-paid w ↦ w.push-is ∙ sym (ap (λ (b : Bool). cond {A = ℕ} b 0 need) (paid ∙ w.if-paid.true))
      | else-paid w ↦ w.push-is ∙ sym (ap (λ (b : Bool). cond {A = ℕ} b 0 need) (paid ∙ w.if-paid.false))
    ] in
    c.in_ok-push.ensures.items ∙ ap (λ x. c.loop-number.prices.items ++ x ∷ []) pushed
    ∙ prices_more (loop_price chosen) (take l (zip g.loops needs)) (loop_at g l, need) c.loop-number.prices.items c.loop-number.invariant
    ∙ ap (map (loop_price chosen)) (sym (pairs_more g.loops needs l _ short within))

pub returns : goal.returns
returns c =
    let g = c.args.graph.now in
    let needs = c.args.needs.now in
    let long = length-zip g.loops needs in
    c.new.ensures ∙ c.loop-number.invariant ∙ ap (map (loop_price c.args.chosen.now)) (take_all c.loop-number.number (zip g.loops needs) (omega arith))
