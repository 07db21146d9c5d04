use Rattle.std.proofs.Common.{◌≡◌, ℕ, ◌*◌, ◌<◌, ◌≤◌, List, length, get_or, ap, subst, ◌∙◌}
use Rattle.path_problem.proofs.SolutionLemmas.{value_more, value_all}
use Rattle.path_problem.proofs.solution.value_of.Goals as goal

pub loop-total-preserved : goal.loop-total-preserved
loop-total-preserved c =
    let k = c.loop-total.total in
    let counts = c.as_slice-count-items.ensures in
    let within : k < length c.args.graph.now.totals = subst (λ (ns : List ℕ). k < length ns) counts c.loop-total-test.true in
    let term = c.product.ensures.product ∙ ap (λ ns. get_or ns k 0 * get_or c.as_slice.result.now k 0) counts ∙ ap (λ ns. get_or c.args.graph.now.totals k 0 * get_or ns k 0) c.as_slice.ensures in
    value_more c.args.graph.now c.args.prices.now c.args.potentials.now k c.loop-total.value c.plus-value-in-loop-total.result c.product.result c.requires.prices within c.loop-total.invariant term
    c.plus-value-in-loop-total.ensures.number c.plus-value-in-loop-total.ensures.high

pub returns : goal.returns
returns c =
    let all : length c.args.graph.now.totals ≤ c.loop-total.total = subst (λ (ns : List ℕ). length ns ≤ c.loop-total.total) c.as_slice-count-items.ensures c.loop-total-test.false in
    value_all c.args.graph.now c.args.prices.now c.args.potentials.now c.loop-total.total c.loop-total.value c.requires.prices all c.loop-total.invariant
