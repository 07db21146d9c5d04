use Rattle.xdd_table.proofs.Canonical.{canonical}
use Rattle.xdd_table.specs.Diagram.{IsTable}
use Rattle.xdd_table.proofs.table.Table.same.Goals as goal

pub returns-clause-canonical : goal.returns-clause-canonical
returns-clause-canonical c = let table : IsTable c.args.self.now = rw (← c.self.view_is) c.self.invariant in canonical c.args.self.now table c.args.a.place c.args.b.place c.requires.first c.requires.second
