use Rattle.cache_class.proofs.EventLemmas.{EventsSoFar}
use Rattle.cache_class.proofs.events.node_classes.Given as goal

abbrev pub invariant-loop-slot : goal.invariant-loop-slot
invariant-loop-slot l = EventsSoFar l.machine l.tables.u.now l.tables.flow l.node l.slots l.slot-index l.place l.classes.items
