use Rattle.cache_class.specs.Tables.{AreReady}
use Rattle.cache_class.proofs.solving.loops_of.Given as goal

abbrev pub invariant-loop-l : goal.invariant-loop-l
invariant-loop-l l = AreReady l.u l.flow l.l-index l.loops.items
