use Rattle.std.proofs.Common.{◌≡◌, drop}
use Rattle.cert_text.specs.Told.{bound_in}
use Rattle.cert_text.proofs.parts.bound.Given as goal

abbrev pub invariant-loop-item : goal.invariant-loop-item
invariant-loop-item l = bound_in l.items ≡ bound_in (drop l.item-index l.items)
