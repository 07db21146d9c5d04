use Rattle.std.proofs.Common.{length}
use Rattle.std.specs.List.{sum_by}
use Rattle.pipe_block.specs.Kept.{AreEndsRight}
use Rattle.xdd_table.specs.Diagram.{Keeps}
use Rattle.state_families.specs.Families.{IsExitTo}
use Rattle.state_families.specs.Fresh.{AreReached, left}
use Rattle.state_families.proofs.rounds.settle.Given as goal

abbrev pub invariant-rounds : goal.invariant-rounds
invariant-rounds l =
    let s = l.subject in
    let m = s.machine.now in
    let u = s.unfolded.now in record {
      reached : AreReached (IsExitTo u m s.classes.now) m.states m.horizon (length u.nodes) u.start l.sets l.fresh.items;
      right : AreEndsRight l.table l.work.pool m u l.work.memo;
      kept : Keeps l.initial.table l.table;
    }

abbrev pub decreases-rounds : goal.decreases-rounds
decreases-rounds l = let m = l.subject.machine.now in sum_by (left m.states m.horizon) l.sets
