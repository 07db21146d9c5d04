use Rattle.graph_loops.specs.Graph.{lists_of}
use Rattle.flow_graph.proofs.EntryLemmas.{AreLeadsBelow}
use Rattle.flow_graph.proofs.entries.leads.Given as goal

abbrev pub invariant-loop-at : goal.invariant-loop-at
invariant-loop-at l = AreLeadsBelow l.ways (lists_of l.calls) (lists_of l.rows.items) l.at
