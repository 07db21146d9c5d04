use Rattle.std.proofs.Common.{map, take}
use Rattle.graph_loops.specs.Graph.{lists_of}
use Rattle.flow_graph.specs.Listing.{AreRows}
use Rattle.flow_graph.proofs.listing.way_rows.Given as goal

abbrev pub invariant-loop-site : goal.invariant-loop-site
invariant-loop-site l = AreRows l.addresses (map (λ s. s.ways.items) (take l.site-index l.sites)) (lists_of l.rows.items)
