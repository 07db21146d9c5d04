use Rattle.xdd_table.specs.Diagram.{time, Keeps}
use Rattle.state_charges.specs.Raising.{IsEarly, IsListedRise, Raises}
use Rattle.state_charges.proofs.events.raise_events.Given as goal

abbrev pub invariant-loop-k : goal.invariant-loop-k
invariant-loop-k l = record {
  kept : Keeps l.fn.table l.table;
  raises : Raises (IsEarly (IsListedRise (λ f. time l.fn.table f l.fn.cost.place) l.misses) l.k) l.fn.amounts l.amounts;
}
