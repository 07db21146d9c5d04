use Rattle.std.proofs.Common.{ℕ, ◌⊎◌, ◌↔◌, List, take}
use Rattle.std.specs.List.{Contains}
use Rattle.pipe_block.specs.Kept.{AreEndsRight}
use Rattle.xdd_table.specs.Diagram.{Keeps}
use Rattle.state_families.specs.Leaving.{IsExitFrom}
use Rattle.state_families.proofs.arrivals.add_exits.Given as goal

abbrev pub invariant-loop-source : goal.invariant-loop-source
invariant-loop-source l =
    let s = l.subject in record {
      exits : (slots : List ℕ) → Contains l.arrivals.items slots
          ↔ (Contains l.initial.arrivals.items slots ⊎ IsExitFrom s.unfolded.now s.machine.now s.classes.now l.edge (take l.source-index l.sources) slots);
      right : AreEndsRight l.table l.work.pool s.machine.now s.unfolded.now l.work.memo;
      kept : Keeps l.initial.table l.table;
    }
