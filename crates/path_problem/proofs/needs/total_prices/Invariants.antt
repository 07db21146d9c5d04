use Rattle.path_problem.proofs.NeedLemmas.{TotalsSoFar}
use Rattle.path_problem.proofs.needs.total_prices.Given as goal

abbrev pub invariant-loop-number : goal.invariant-loop-number
invariant-loop-number l = TotalsSoFar l.graph l.chosen l.needs l.number l.prices.items
