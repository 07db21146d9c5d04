use Rattle.path_problem.proofs.WholeLemmas.{ValuesSoFar}
use Rattle.path_problem.proofs.potential.numbers.Given as goal

abbrev pub invariant-loop-vertex : goal.invariant-loop-vertex
invariant-loop-vertex l = ValuesSoFar l.values l.vertex l.numbers.items
