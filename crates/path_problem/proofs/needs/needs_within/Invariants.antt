use Rattle.path_problem.proofs.NeedLemmas.{NeedsSoFar}
use Rattle.path_problem.proofs.needs.needs_within.Given as goal

abbrev pub invariant-loop-number : goal.invariant-loop-number
invariant-loop-number l = NeedsSoFar l.layout.graph.now l.chosen l.number l.needs.items l.weights l.stamps
