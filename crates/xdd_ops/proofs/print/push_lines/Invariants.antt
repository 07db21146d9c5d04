use Rattle.std.proofs.Common.{◌≡◌, ℕ, ◌<◌, ◌++◌, take, slice_get, get_or, IfSome}
use Rattle.xdd_table.specs.Diagram.{IsTable}
use Rattle.xdd_ops.specs.Text.{lines_of, FitsNode}
use Rattle.xdd_ops.proofs.print.push_lines.Given as goal

abbrev pub invariant-loop-place : goal.invariant-loop-place
invariant-loop-place l = record {
  text : l.text.items ≡ l.initial.text.items ++ lines_of l.table l.order (take l.place-index l.order);
  table : 0 < l.place-index → IsTable l.table;
  fit : (i : ℕ) → i < l.place-index → IfSome (slice_get l.table (get_or l.order i 0)) FitsNode;
}
