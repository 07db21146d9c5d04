use Rattle.graph_loops.specs.Graph.{lists_of}
use Rattle.graph_loops.proofs.SourceLemmas.{SourcesSoFar}
use Rattle.graph_loops.proofs.sources.sources_of.Given as goal

abbrev pub invariant-loop-u : goal.invariant-loop-u
invariant-loop-u l = SourcesSoFar (lists_of l.lists) l.u (lists_of l.sources.items)
