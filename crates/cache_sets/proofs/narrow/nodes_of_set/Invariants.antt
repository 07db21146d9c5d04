use Rattle.std.proofs.Common.{◌≡◌, ◌++◌, drop, map}
use Rattle.cache_sets.specs.Sets.{of_set}
use Rattle.cache_sets.proofs.narrow.nodes_of_set.Given as goal

abbrev pub invariant-loop-accesses : goal.invariant-loop-accesses
invariant-loop-accesses l = map (of_set l.shape l.set) l.flow.nodes ≡ l.nodes.items ++ map (of_set l.shape l.set) (drop l.accesses-index l.flow.nodes)
