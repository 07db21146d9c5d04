use Rattle.path_problem.proofs.ChainLemmas.{NotYet}
use Rattle.path_problem.proofs.chain.closed_part.Given as goal

abbrev pub invariant-loop-at : goal.invariant-loop-at
invariant-loop-at l = NotYet l.links l.trail.links.items l.trail.end l.at
