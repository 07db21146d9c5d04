use Rattle.std.proofs.Common.{◌+◌, ◌*◌, ◌^◌, arith}
use Rattle.path_graph.specs.declared.graph.TheConstants.{LARGEST}
use Rattle.path_problem.specs.Window.{toll_of, weight_limit}
use Rattle.path_problem.proofs.TollLemmas.{added_fits, added_within, with_toll, gain_is, loss_is, gain_within, loss_within}
use Rattle.path_problem.proofs.window.add_toll.Goals as goal

pub add_listed-requires-2-clause-fits : goal.add_listed-requires-2-clause-fits
add_listed-requires-2-clause-fits c =
    let gain = gain_is _ _ _ _ c.from.ensures c.from-2.ensures c.requires.turns c.requires.price in
    let loss = loss_is _ _ c.from-3.ensures c.requires.loss in
    added_fits _ _ _ _ _ _ (weight_limit c.args.number) (2 ^ 32 * LARGEST) (2 * LARGEST) c.add_listed.ensures.added c.add_listed.auto.weights c.requires.small
    (gain_within _ _ _ gain c.requires.turns c.requires.price) (loss_within _ _ loss c.requires.loss) (omega arith)

pub returns-clause-weights : goal.returns-clause-weights
returns-clause-weights c = λ g tolls w.
    with_toll g tolls (toll_of c.args.arcs.now c.args.rates) c.args.first _ _ _ _ _ _ _ c.as_slice.ensures c.as_slice-2.ensures
    (gain_is _ _ _ _ c.from.ensures c.from-2.ensures c.requires.turns c.requires.price) (loss_is _ _ c.from-3.ensures c.requires.loss)
    c.add_listed.auto.weights c.add_listed-2.auto.weights c.add_listed.ensures.added c.add_listed-2.ensures.added w

pub returns-clause-within : goal.returns-clause-within
returns-clause-within c =
    let gain = gain_is _ _ _ _ c.from.ensures c.from-2.ensures c.requires.turns c.requires.price in
    let loss = loss_is _ _ c.from-3.ensures c.requires.loss in
    let m = weight_limit c.args.number in
    let one = added_within _ _ _ _ _ m (2 ^ 32 * LARGEST) (m + 2 ^ 32 * LARGEST) c.add_listed.ensures.added c.add_listed.auto.weights c.requires.small
    (gain_within _ _ _ gain c.requires.turns c.requires.price) (omega arith) in
    added_within _ _ _ _ _ (m + 2 ^ 32 * LARGEST) (2 * LARGEST) (weight_limit (c.args.number + 1)) c.add_listed-2.ensures.added c.add_listed-2.auto.weights one
    (loss_within _ _ loss c.requires.loss) (omega arith)
