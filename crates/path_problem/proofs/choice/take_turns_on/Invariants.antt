use Rattle.path_problem.specs.Solution.{TurnsSoFar}
use Rattle.path_problem.proofs.choice.take_turns_on.Given as goal

abbrev pub invariant-loop-total : goal.invariant-loop-total
invariant-loop-total l = TurnsSoFar l.layout.graph.now l.total l.chosen l.best
