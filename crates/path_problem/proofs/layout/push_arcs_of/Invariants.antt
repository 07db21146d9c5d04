use Rattle.path_problem.proofs.SourceLemmas.{ComingFrom, togo}
use Rattle.path_problem.proofs.layout.push_arcs_of.Given as goal

abbrev pub invariant-steps : goal.invariant-steps
invariant-steps l = ComingFrom l.layout.graph.now l.vertex l.initial.arcs.items l.arcs.items l.next

abbrev pub decreases-steps : goal.decreases-steps
decreases-steps l = togo l.next
