use Rattle.std.proofs.Common.{◌≡◌, ◌++◌, drop}
use Rattle.cert_text.specs.Written.{multiplier_items, text_of}
use Rattle.cert_text.proofs.write.push_multipliers.Given as goal

abbrev pub invariant-loop-number : goal.invariant-loop-number
invariant-loop-number l = l.initial.out.items ++ text_of (multiplier_items 0 l.amounts) ≡ l.out.items ++ text_of (multiplier_items l.number (drop l.number l.amounts))
