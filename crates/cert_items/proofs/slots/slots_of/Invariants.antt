use Rattle.std.proofs.Common.{◌≡◌, take}
use Rattle.cert_items.specs.Order.{slots_of}
use Rattle.cert_items.proofs.slots.slots_of.Given as goal

abbrev pub invariant-loop-pair : goal.invariant-loop-pair
invariant-loop-pair l = l.slots ≡ slots_of (take l.pair-index l.pairs)
