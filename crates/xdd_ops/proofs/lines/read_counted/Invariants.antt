use Rattle.std.proofs.Common.{◌≡◌, ◌++◌, length}
use Rattle.wx_text.specs.Cursor.{rest}
use Rattle.xdd_ops.specs.Read.{lines_text, AreLines}
use Rattle.xdd_ops.proofs.lines.read_counted.Given as goal

abbrev pub invariant-loop : goal.invariant-loop
invariant-loop l = record {
  proper : AreLines l.lines.items;
  counted : length l.lines.items ≡ l.counter;
  text : rest l.initial.cursor ≡ lines_text l.lines.items ++ rest l.cursor;
  bytes : l.cursor.bytes ≡ l.initial.cursor.bytes;
}
