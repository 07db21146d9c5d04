use Rattle.path_problem.proofs.TollLemmas.{WeightsSoFar}
use Rattle.path_problem.proofs.window.full_weights.Given as goal

abbrev pub invariant-loop-number : goal.invariant-loop-number
invariant-loop-number l = WeightsSoFar l.graph l.prices l.first l.number l.weights l.stamps
