use Rattle.std.proofs.Common.{◌≡◌, ◌++◌, map, drop}
use Rattle.cert_text.specs.Written.{total_item, text_of}
use Rattle.cert_text.proofs.write.push_totals.Given as goal

abbrev pub invariant-loop-total : goal.invariant-loop-total
invariant-loop-total l = l.initial.out.items ++ text_of (map total_item l.totals) ≡ l.out.items ++ text_of (map total_item (drop l.total-index l.totals))
