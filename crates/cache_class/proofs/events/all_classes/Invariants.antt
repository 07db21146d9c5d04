use Rattle.cache_class.specs.Tables.{AreClassesTo}
use Rattle.cache_class.proofs.events.all_classes.Given as goal

abbrev pub invariant-loop-node : goal.invariant-loop-node
invariant-loop-node l = AreClassesTo l.machine l.tables.u.now l.tables.flow l.node l.all.items
