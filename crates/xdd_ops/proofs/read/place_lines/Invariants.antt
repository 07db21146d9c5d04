use Rattle.std.proofs.Common.{◌≡◌, ℕ, ◌<◌, length}
use Rattle.xdd_table.specs.Diagram.{IsTable, Keeps}
use Rattle.xdd_ops.specs.Read.{ArePlaced}
use Rattle.xdd_ops.specs.Refusal.{IsUnreduced}
use Rattle.xdd_ops.proofs.read.place_lines.Given as goal

abbrev pub invariant-loop-index : goal.invariant-loop-index
invariant-loop-index l = record {
  kept : Keeps l.initial.table l.table;
  placed : ArePlaced l.table l.lines l.places.keys;
  counted : length l.places.keys ≡ l.index;
  reduced : (k : ℕ) → k < l.index → IsUnreduced l.lines k → ⊥;
  table : 0 < l.index → IsTable l.table;
}
