use Rattle.flow_graph.proofs.OutlineLemmas.{OutlinesSoFar}
use Rattle.flow_graph.proofs.outline.outlines.Given as goal

abbrev pub invariant-loop-entry : goal.invariant-loop-entry
invariant-loop-entry l = OutlinesSoFar l.ways l.entries l.entry l.list.items
