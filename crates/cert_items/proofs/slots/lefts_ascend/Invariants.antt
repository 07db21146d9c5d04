use Rattle.std.proofs.Common.{◌≡◌, None, drop}
use Rattle.cert_items.specs.Order.{ascend, lefts}
use Rattle.cert_items.proofs.slots.lefts_ascend.Given as goal

abbrev pub invariant-loop-pair : goal.invariant-loop-pair
invariant-loop-pair l = ascend None (lefts l.pairs) ≡ ascend l.last (lefts (drop l.pair-index l.pairs))
