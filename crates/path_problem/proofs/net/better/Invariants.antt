use Rattle.path_problem.specs.Net.{gap}
use Rattle.path_problem.proofs.NetLemmas.{Labeled}
use Rattle.path_problem.proofs.net.better.Given as goal

abbrev pub invariant-rounds : goal.invariant-rounds
invariant-rounds l = Labeled l.links l.price l.fn.values l.values l.next

abbrev pub decreases-rounds : goal.decreases-rounds
decreases-rounds l = gap l.values
