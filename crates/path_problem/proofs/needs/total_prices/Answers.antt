use Rattle.std.proofs.Common.{◌≡◌, ◌+◌, ◌<◌, ℕ, List, length, drop, get_or, ap, sym, subst, ◌∙◌, arith}
use Rattle.std.proofs.lemmas.List.{get_or_default, take_at}
use Rattle.path_graph.specs.declared.graph.LoopArcs.{LoopArcs}
use Rattle.path_graph.specs.Graph.{loop_at}
use Rattle.path_problem.specs.Need.{AreTotalPrices}
use Rattle.path_problem.proofs.NeedLemmas.{TotalsSoFar, totals_more, all_totals, raised_same}
use Rattle.path_problem.proofs.needs.total_prices.Goals as goal

pub loop-number-preserved : goal.loop-number-preserved
loop-number-preserved c =
    let g = c.args.graph.now in
    let l = c.loop-number.number in
    let needs = c.args.needs.now in
    let within : l < length needs = omega arith in
    let short : l < length g.loops = omega arith in
    let arcs = c.index-as_slice-number.result in
    let is : (get_or c.as_slice.result.now l arcs).total ≡ (loop_at g l).total = ap (λ (ls : List LoopArcs). (get_or ls l arcs).total) c.as_slice.ensures ∙ ap (λ (a : LoopArcs). a.total) (get_or_default g.loops l arcs _ short) in
    let new = c.raise.new.prices in
    let count : length new ≡ c.loop-number.prices.len = c.raise.auto.prices ∙ c.as_mut_slice.ensures.len in
    let size : length new ≡ length c.loop-number.prices.items = c.raise.auto.prices ∙ ap length c.as_mut_slice.ensures.value in
    let P : List ℕ → Type 0 = λ after. TotalsSoFar g c.args.chosen.now needs (l + 1) after in
    subst P (sym (take_at new (drop (length new) c.loop-number.prices.items) c.loop-number.prices.len count))
    (totals_more g c.args.chosen.now needs l c.loop-number.prices.items new c.loop-number.invariant short within size
    (raised_same is c.as_mut_slice.ensures.value c.raise.ensures))

pub returns : goal.returns
returns c =
    subst (AreTotalPrices c.args.graph.now c.args.chosen.now c.args.needs.now) (sym c.new.ensures)
    (all_totals c.args.graph.now c.args.chosen.now c.args.needs.now c.loop-number.number c.loop-number.prices.items c.loop-number.invariant c.requires.needs (omega arith))
