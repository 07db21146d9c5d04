use Rattle.path_problem.proofs.NeedLemmas.{has_needs, has_bounds}
use Rattle.path_problem.proofs.ClosedLemmas.{no_closed_gain, has_prices}
use Rattle.path_problem.proofs.needs.prices_on.Goals as goal

pub returns-clause-ok : goal.returns-clause-ok
returns-clause-ok c =
    has_needs c.args.layout.now.graph.now c.args.chosen.now c.in_ok-needs.needs.items c.as_slice.result.now c.as_slice-2.result.now c.in_ok-loops.loops c.in_ok-totals.totals
    c.in_ok-needs.ensures.ok c.as_slice.ensures.value c.as_slice-2.ensures.value c.in_ok-loops.ensures c.in_ok-totals.ensures

pub returns-clause-small : goal.returns-clause-small
returns-clause-small c =
    has_bounds c.args.layout.now.graph.now c.args.chosen.now c.in_ok-needs.needs.items c.as_slice.result.now c.as_slice-2.result.now c.in_ok-loops.loops c.in_ok-totals.totals
    c.in_ok-needs.ensures.ok c.as_slice.ensures.value c.as_slice-2.ensures.value c.in_ok-loops.ensures c.in_ok-totals.ensures

pub returns-clause-priced : goal.returns-clause-priced
returns-clause-priced c =
    has_prices c.args.layout.now.graph.now c.args.chosen.now _ c.requires.layout.graph
    (has_needs c.args.layout.now.graph.now c.args.chosen.now c.in_ok-needs.needs.items c.as_slice.result.now c.as_slice-2.result.now c.in_ok-loops.loops c.in_ok-totals.totals
    c.in_ok-needs.ensures.ok c.as_slice.ensures.value c.as_slice-2.ensures.value c.in_ok-loops.ensures c.in_ok-totals.ensures)

pub returns-clause-closed : goal.returns-clause-closed
returns-clause-closed c =
    no_closed_gain c.args.layout.now.graph.now c.args.chosen.now _ c.requires.layout.graph
    (has_needs c.args.layout.now.graph.now c.args.chosen.now c.in_ok-needs.needs.items c.as_slice.result.now c.as_slice-2.result.now c.in_ok-loops.loops c.in_ok-totals.totals
    c.in_ok-needs.ensures.ok c.as_slice.ensures.value c.as_slice-2.ensures.value c.in_ok-loops.ensures c.in_ok-totals.ensures)
