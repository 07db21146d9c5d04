use Rattle.cache_class.specs.Tables.{AreSetTables}
use Rattle.cache_class.proofs.sets.set_tables.Given as goal

abbrev pub invariant-loop-set : goal.invariant-loop-set
invariant-loop-set l = AreSetTables l.shape l.flow l.set l.tables.items
