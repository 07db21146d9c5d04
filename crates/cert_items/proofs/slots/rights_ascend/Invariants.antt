use Rattle.std.proofs.Common.{◌≡◌, None, drop}
use Rattle.cert_items.specs.Order.{ascend, rights}
use Rattle.cert_items.proofs.slots.rights_ascend.Given as goal

abbrev pub invariant-loop-pair : goal.invariant-loop-pair
invariant-loop-pair l = ascend None (rights l.pairs) ≡ ascend l.last (rights (drop l.pair-index l.pairs))
