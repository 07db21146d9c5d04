use Rattle.std.proofs.Common.{length, ◌-◌, ◌^◌}
use Rattle.flow_graph.proofs.ReachLemmas.{Searched}
use Rattle.flow_graph.proofs.explore.search.Given as goal

abbrev pub invariant-loop-address : goal.invariant-loop-address
invariant-loop-address l = Searched l.image l.facts l.start l.reached.keys l.sites.items

abbrev pub decreases-loop-address : goal.decreases-loop-address
decreases-loop-address l = 2 ^ 64 - length l.sites.items
