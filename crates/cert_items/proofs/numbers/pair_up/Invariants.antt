use Rattle.std.proofs.Common.{◌≡◌, ◌*◌, ◌/◌, length, take}
use Rattle.cert_items.specs.Said.{flat}
use Rattle.cert_items.proofs.numbers.pair_up.Given as goal

abbrev pub invariant-loop-at : goal.invariant-loop-at
invariant-loop-at l = record {
  end : l.at-end ≡ length l.fn.numbers / 2;
  so : flat l.pairs.items ≡ take (2 * l.at) l.fn.numbers;
}
