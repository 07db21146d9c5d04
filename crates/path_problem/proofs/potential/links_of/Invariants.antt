use Rattle.path_problem.proofs.WholeLemmas.{LinksSoFar}
use Rattle.path_problem.proofs.potential.links_of.Given as goal

abbrev pub invariant-loop-number : goal.invariant-loop-number
invariant-loop-number l = LinksSoFar l.graph l.prices l.order l.number-index l.links.items
