use Rattle.std.proofs.Common.{◌≡◌, ◌++◌, map, drop}
use Rattle.cert_text.specs.Written.{charge_item, text_of}
use Rattle.cert_text.proofs.write.push_charges.Given as goal

abbrev pub invariant-loop-charge : goal.invariant-loop-charge
invariant-loop-charge l = l.initial.out.items ++ text_of (map charge_item l.charges) ≡ l.out.items ++ text_of (map charge_item (drop l.charge-index l.charges))
