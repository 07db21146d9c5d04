use Rattle.std.proofs.Common.{◌≡◌, ◌+◌, drop}
use Rattle.cert_lines.specs.Reading.{lines_of}
use Rattle.cert_items.specs.Order.{leading}
use Rattle.cert_items.proofs.order.leading.Given as goal

abbrev pub invariant-loop-index : goal.invariant-loop-index
invariant-loop-index l = leading l.fn.kind (lines_of l.fn.rows) ≡ l.index + leading l.fn.kind (lines_of (drop l.index l.fn.rows))
