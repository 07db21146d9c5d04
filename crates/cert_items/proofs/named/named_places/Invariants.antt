use Rattle.std.proofs.Common.{◌≡◌, ℕ, ◌<◌, false, length, take}
use Rattle.std.specs.Prelude.{slice_index_or}
use Rattle.cert_lines.specs.Reading.{lines_of}
use Rattle.cert_items.specs.Order.{is_named}
use Rattle.cert_items.proofs.named.named_places.Given as goal

abbrev pub invariant-loop-row : goal.invariant-loop-row
invariant-loop-row l = record {
  size : length l.marks.items ≡ length l.rows;
  marks : (j : ℕ) → j < length l.rows → slice_index_or l.marks.items j false ≡ is_named (lines_of (take l.row-index l.rows)) j;
}
