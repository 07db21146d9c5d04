use Rattle.std.proofs.Common.{vec_len}
use Rattle.path_problem.proofs.ChainLemmas.{BackSoFar}
use Rattle.path_problem.proofs.chain.rank_back.Given as goal

abbrev pub invariant-steps : goal.invariant-steps
invariant-steps l = BackSoFar l.links l.next l.fn.ranks l.ranks l.count l.fn.trail.first l.fn.trail.links.items l.walk.items

abbrev pub decreases-steps : goal.decreases-steps
decreases-steps l = vec_len l.walk
