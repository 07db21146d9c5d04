use Rattle.std.proofs.Common.{ℕ, ◌↔◌, List, take}
use Rattle.std.specs.List.{Contains}
use Rattle.pipe_block.specs.Kept.{AreEndsRight}
use Rattle.xdd_table.specs.Diagram.{Keeps}
use Rattle.state_families.specs.Leaving.{IsExitAmong}
use Rattle.state_families.proofs.arrivals.arrivals_at.Given as goal

abbrev pub invariant-loop-number : goal.invariant-loop-number
invariant-loop-number l =
    let s = l.subject in record {
      exits : (slots : List ℕ) → Contains l.arrivals.items slots ↔ IsExitAmong s.unfolded.now s.machine.now s.classes.now (take l.number-index l.numbers) l.fresh slots;
      right : AreEndsRight l.table l.work.pool s.machine.now s.unfolded.now l.work.memo;
      kept : Keeps l.initial.table l.table;
    }
