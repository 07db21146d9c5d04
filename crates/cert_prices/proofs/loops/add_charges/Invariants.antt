use Rattle.std.proofs.Common.{length, take}
use Rattle.cert_prices.specs.Sums.{AreLoopCharges}
use Rattle.cert_prices.proofs.loops.add_charges.Given as goal

abbrev pub invariant-loop-charge : goal.invariant-loop-charge
invariant-loop-charge l = AreLoopCharges (take l.charge-index l.charges) (length l.initial.sums) l.sums
