use Rattle.xdd_table.specs.Diagram.{Keeps}
use Rattle.node_exits.specs.NodeExits.{IsRight}
use Rattle.state_charges.specs.Raising.{IsEarly, IsEdgeRise, Raises}
use Rattle.state_charges.proofs.edges.raise_edges.Given as goal

abbrev pub invariant-loop-number : goal.invariant-loop-number
invariant-loop-number l = record {
  kept : Keeps l.fn.table l.table;
  right : IsRight l.table l.subject.unfolded.now l.subject.machine.now l.work;
  raises : Raises
      (IsEarly (IsEdgeRise l.subject.unfolded.now l.subject.machine.now l.subject.classes.now l.subject.vectors.now l.places.groups) l.number)
      l.fn.amounts l.amounts;
}
