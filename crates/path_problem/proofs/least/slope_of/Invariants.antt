use Rattle.path_problem.proofs.LeastLemmas.{SlopeSoFar}
use Rattle.path_problem.proofs.least.slope_of.Given as goal

abbrev pub invariant-loop-number : goal.invariant-loop-number
invariant-loop-number l = SlopeSoFar l.links l.walk l.number-index l.slope.weight l.slope.backs
