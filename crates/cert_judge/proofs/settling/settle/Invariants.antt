use Rattle.std.proofs.Common.{◌≡◌, ◌<◌, length}
use Rattle.xdd_table.specs.Diagram.{Combination, time, Keeps}
use Rattle.cert_judge.proofs.SettledLemmas.{settled_below}
use Rattle.cert_judge.proofs.settling.settle.Given as goal

abbrev pub invariant-loop-event : goal.invariant-loop-event
invariant-loop-event l = record {
  within : l.answer.place < length l.table;
  times : (f : Combination) → time l.table f l.answer.place ≡ time l.fn.table (settled_below l.classes l.event f) l.fn.d.place;
  kept : Keeps l.fn.table l.table;
}
