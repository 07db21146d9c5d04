use Rattle.path_problem.proofs.SolutionLemmas.{ValueSoFar}
use Rattle.path_problem.proofs.solution.value_of.Given as goal

abbrev pub invariant-loop-total : goal.invariant-loop-total
invariant-loop-total l = ValueSoFar l.graph l.prices l.potentials l.total l.value
