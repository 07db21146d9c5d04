use Rattle.std.proofs.Common.{◌<◌, ◌^◌, map}
use Rattle.wx_text.specs.Decimal.{decimal}
use Rattle.cert_items.proofs.SoFar.{ReadSoFar}
use Rattle.cert_items.proofs.numbers.read_numbers.Given as goal

abbrev pub invariant-loop-word : goal.invariant-loop-word
invariant-loop-word l = ReadSoFar decimal (λ n. n < 2 ^ 64) (map (λ w. w.now) l.words) l.word-index l.list.items
