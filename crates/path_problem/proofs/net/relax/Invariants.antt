use Rattle.path_problem.proofs.NetLemmas.{RelaxSoFar}
use Rattle.path_problem.proofs.net.relax.Given as goal

abbrev pub invariant-loop-number : goal.invariant-loop-number
invariant-loop-number l = RelaxSoFar l.links l.price l.number l.initial.values l.initial.next l.values l.next l.changed
