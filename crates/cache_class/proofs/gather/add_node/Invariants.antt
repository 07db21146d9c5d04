use Rattle.std.proofs.Common.{map}
use Rattle.cache_class.specs.GroupsSoFar.{group_at, AreGroupsTo}
use Rattle.cache_class.proofs.gather.add_node.Given as goal

abbrev pub invariant-loop-i : goal.invariant-loop-i
invariant-loop-i l = AreGroupsTo l.u l.classes l.node l.i (map group_at l.set.keys)
