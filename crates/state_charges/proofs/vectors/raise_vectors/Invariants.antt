use Rattle.xdd_table.specs.Diagram.{Keeps}
use Rattle.node_exits.specs.NodeExits.{IsRight}
use Rattle.state_charges.specs.Raising.{IsEarly, IsFamilyRise, Raises}
use Rattle.state_charges.proofs.vectors.raise_vectors.Given as goal

abbrev pub invariant-loop-place : goal.invariant-loop-place
invariant-loop-place l = record {
  kept : Keeps l.fn.table l.table;
  right : IsRight l.table l.departure.site.unfolded.now l.departure.site.machine.now l.work;
  raises : Raises
      (IsEarly (IsFamilyRise l.departure.site.machine.now l.departure.block.now l.departure.classes.now l.departure.taken l.departure.misses.now l.family) l.place)
      l.fn.amounts l.amounts;
}
