use Rattle.std.proofs.Common.{◌≡◌, ◌<◌, length}
use Rattle.xdd_table.specs.Diagram.{Combination, AgreesWith, time, EventsLess}
use Rattle.xdd_table.proofs.table.Table.time.Given as goal

abbrev pub invariant-loop-time : goal.invariant-loop-time
invariant-loop-time l = record {
  within : l.at.place < length l.self;
  events : EventsLess l.self l.at.place (length l.combo);
  times : (f : Combination) → AgreesWith l.combo f → time l.self f l.at.place ≡ time l.self f l.fn.d.place;
}

abbrev pub decreases-loop-time : goal.decreases-loop-time
decreases-loop-time l = l.at.place
