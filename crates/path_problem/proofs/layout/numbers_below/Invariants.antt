use Rattle.path_problem.proofs.WholeLemmas.{NumbersSoFar}
use Rattle.path_problem.proofs.layout.numbers_below.Given as goal

abbrev pub invariant-loop-number : goal.invariant-loop-number
invariant-loop-number l = NumbersSoFar l.number l.numbers.items
