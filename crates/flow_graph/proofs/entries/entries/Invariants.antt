use Rattle.graph_loops.specs.Graph.{lists_of}
use Rattle.flow_graph.proofs.EntryLemmas.{AreEntriesBelow}
use Rattle.flow_graph.proofs.entries.entries.Given as goal

abbrev pub invariant-loop-callees : goal.invariant-loop-callees
invariant-loop-callees l = AreEntriesBelow (lists_of l.calls) l.start l.callees-index l.marks.items
