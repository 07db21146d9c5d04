use Rattle.path_problem.proofs.ChainLemmas.{RankedSoFar}
use Rattle.path_problem.proofs.chain.find_closed.Given as goal

abbrev pub invariant-loop-first : goal.invariant-loop-first
invariant-loop-first l = RankedSoFar l.links l.next l.marks l.ranks l.count l.first
