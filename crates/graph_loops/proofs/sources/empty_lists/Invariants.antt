use Rattle.std.proofs.Common.{◌≡◌, [], replicate}
use Rattle.graph_loops.specs.Graph.{lists_of}
use Rattle.graph_loops.proofs.sources.empty_lists.Given as goal

abbrev pub invariant-loop : goal.invariant-loop
invariant-loop l = lists_of l.lists.items ≡ replicate l.counter []
