use Rattle.std.specs.Prelude.{count_by, not}
use Rattle.path_problem.proofs.ChainLemmas.{TrailSoFar}
use Rattle.path_problem.proofs.chain.trail_from.Given as goal

abbrev pub invariant-steps : goal.invariant-steps
invariant-steps l = TrailSoFar l.links l.next l.first l.fn.marks l.marks l.trail.items l.end

abbrev pub decreases-steps : goal.decreases-steps
decreases-steps l = count_by (λ m. not m) l.marks
