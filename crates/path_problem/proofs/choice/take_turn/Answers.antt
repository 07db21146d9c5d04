use Rattle.std.proofs.Common.{Bool, not, set, false, ◌+◌, sym, subst}
use Rattle.path_problem.specs.declared.solution.Outcome.{Outcome}
use Rattle.path_problem.specs.Solution.{TurnsSoFar}
use Rattle.path_problem.proofs.ChoiceLemmas.{turn_taken}
use Rattle.path_problem.proofs.choice.take_turn.Goals as goal

pub returns : goal.returns
returns c =
    let g = c.args.layout.now.graph.now in
    let k = c.args.total in
    let less = c.is_less-is_given_up.result in
    let F : Outcome → Type 0 = λ o. TurnsSoFar g (k + 1) (set (set c.args.chosen.now k false) k (not less)) o in
    subst F (sym c.one_of.ensures) (turn_taken g k c.args.chosen.now c.args.best c.in_ok-without.without less c.requires.total c.requires.turns c.in_ok-without.ensures c.is_less-is_given_up.ensures)
