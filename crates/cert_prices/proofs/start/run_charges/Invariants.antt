use Rattle.std.proofs.Common.{◌≡◌, take}
use Rattle.flow_ctx.specs.declared.scope.Scope.TheVariants.{Run}
use Rattle.cert_rules.specs.Prices.{charges_in}
use Rattle.cert_prices.proofs.start.run_charges.Given as goal

abbrev pub invariant-loop-charge : goal.invariant-loop-charge
invariant-loop-charge l = l.sum ≡ charges_in (take l.charge-index l.charges) Run
