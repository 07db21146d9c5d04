use Rattle.std.specs.List.{All}
use Rattle.graph_loops.specs.Graph.{AreVertices}
use Rattle.test_flow.proofs.graphs.lists_of_text.Given as goal

abbrev pub invariant-loop-part : goal.invariant-loop-part
invariant-loop-part l = All (λ list. AreVertices l.count list.items) l.lists.items
