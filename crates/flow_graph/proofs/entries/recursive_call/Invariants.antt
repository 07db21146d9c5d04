use Rattle.graph_loops.specs.Graph.{lists_of}
use Rattle.flow_graph.specs.Listing.{IsLeast}
use Rattle.flow_graph.proofs.EntryLemmas.{IsRecursiveBelow}
use Rattle.flow_graph.proofs.entries.recursive_call.Given as goal

abbrev pub invariant-loop-entry : goal.invariant-loop-entry
invariant-loop-entry l = IsLeast (λ v. IsRecursiveBelow l.ways (lists_of l.calls) l.entry v) l.least
