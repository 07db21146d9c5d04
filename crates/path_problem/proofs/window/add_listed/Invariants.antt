use Rattle.path_problem.proofs.WindowLemmas.{AddedSoFar}
use Rattle.path_problem.proofs.window.add_listed.Given as goal

abbrev pub invariant-loop-number : goal.invariant-loop-number
invariant-loop-number l = AddedSoFar l.listed l.number-index l.first l.amount l.stamp l.initial.weights l.weights l.stamps
