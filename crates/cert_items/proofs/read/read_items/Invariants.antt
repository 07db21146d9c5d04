use Rattle.std.proofs.Common.{◌≡◌, length}
use Rattle.cert_lines.specs.Reading.{lines_of}
use Rattle.cert_items.specs.Counts.{AreCounts, AreMarks}
use Rattle.cert_items.specs.Judged.{IsJudged}
use Rattle.cert_items.proofs.read.read_items.Given as goal

abbrev pub invariant-loop-index : goal.invariant-loop-index
invariant-loop-index l = record {
  judged : IsJudged (lines_of l.fn.rows) l.items.items;
  count : length l.items.items ≡ l.index;
  counts : AreCounts l.counts l.items.items;
  marks : AreMarks (lines_of l.fn.rows) l.marks.items;
}
