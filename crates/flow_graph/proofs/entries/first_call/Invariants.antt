use Rattle.graph_loops.specs.Graph.{lists_of}
use Rattle.flow_graph.proofs.EntryLemmas.{NoneCalls}
use Rattle.flow_graph.proofs.entries.first_call.Given as goal

abbrev pub invariant-loop-site : goal.invariant-loop-site
invariant-loop-site l = NoneCalls (lists_of l.calls) l.entry l.marks l.site
