use Rattle.path_problem.proofs.WindowLemmas.{OwnSoFar}
use Rattle.path_problem.proofs.window.own_weights.Given as goal

abbrev pub invariant-loop-at : goal.invariant-loop-at
invariant-loop-at l = OwnSoFar l.graph l.first l.at l.weights l.stamps
