use Rattle.pipe_block.specs.Kept.{AreEndsRight}
use Rattle.xdd_table.specs.Diagram.{Keeps}
use Rattle.state_families.specs.Families.{IsExitTo}
use Rattle.state_families.specs.Fresh.{AreGrownTo}
use Rattle.state_families.proofs.rounds.round.Given as goal

abbrev pub invariant-loop-node : goal.invariant-loop-node
invariant-loop-node l =
    let s = l.subject in
    let m = s.machine.now in
    let u = s.unfolded.now in record {
      grown : AreGrownTo (IsExitTo u m s.classes.now) m.states m.horizon l.node l.initial.sets l.fresh l.sets l.new.items;
      right : AreEndsRight l.table l.work.pool m u l.work.memo;
      kept : Keeps l.initial.table l.table;
    }
