use Rattle.xdd_table.proofs.LeafLemmas.{leads, led, places_within}
use Rattle.xdd_table.proofs.OrderLemmas.{lists_below}
use Rattle.xdd_table.specs.Diagram.{IsTable}
use Rattle.xdd_table.specs.Order.{ListsBelow}
use Rattle.xdd_table.proofs.table.Table.order.Goals as goal
use Rattle.xdd_table.proofs.table.Table.order.Goals.{In_ok-finish}

is_table : (c : In_ok-finish) → IsTable c.args.self.now
is_table c = rw (← c.self.view_is) c.self.invariant

listed : (c : In_ok-finish) → ListsBelow c.args.self.now c.args.d.place c.finish.new.done.keys
listed c = lists_below c.args.self.now (is_table c) c.args.d.place c.finish.new.done.keys (rw c.new-places.ensures.empty at c.in_ok-finish.ensures)

pub returns-clause-below : goal.returns-clause-below
returns-clause-below c = listed c

pub returns-clause-leaves : goal.returns-clause-leaves
returns-clause-leaves c = λ f. leads c.args.self.now (is_table c) f c.args.d.place c.finish.new.done.keys c.requires (listed c)

pub returns-clause-led : goal.returns-clause-led
returns-clause-led c = λ q t h at. led c.args.self.now (is_table c) t ((listed c).sound q h) at

pub returns-clause-within : goal.returns-clause-within
returns-clause-within c = places_within c.args.self.now (is_table c) c.args.d.place c.finish.new.done.keys c.requires (listed c)
