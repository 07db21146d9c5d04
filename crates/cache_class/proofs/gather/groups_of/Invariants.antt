use Rattle.std.proofs.Common.{map}
use Rattle.cache_class.specs.GroupsSoFar.{group_at, AreGroupsTo}
use Rattle.cache_class.proofs.gather.groups_of.Given as goal

abbrev pub invariant-loop-node : goal.invariant-loop-node
invariant-loop-node l = AreGroupsTo l.u l.classes l.node 0 (map group_at l.set.keys)
