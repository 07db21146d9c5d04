use Rattle.std.proofs.Common.{◌≡◌, ℕ, ◌<◌, length, slice_get, Some}
use Rattle.xdd_table.specs.declared.node.Dd.{Dd}
use Rattle.xdd_table.specs.Diagram.{Keeps}
use Rattle.pipe_block.specs.Rows.{IsColumn, column_of}
use Rattle.pipe_block.proofs.columns.slot_columns.Given as goal

abbrev pub invariant-loop-k : goal.invariant-loop-k
invariant-loop-k l = record {
  long : length l.slots ≡ 35;
  done : (j : ℕ) (d : Dd) → j < l.k → slice_get l.slots j ≡ Some d → IsColumn l.plan l.table (column_of j l.rows) l.root.place d;
  kept : Keeps l.initial.table l.table;
}
