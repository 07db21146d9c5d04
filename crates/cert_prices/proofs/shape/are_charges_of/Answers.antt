use Rattle.std.proofs.Common.{arith, refl}
use Rattle.cert_prices.proofs.ShapeLemmas.{all_match, none_match}
use Rattle.cert_prices.proofs.shape.are_charges_of.Goals as goal

pub loop-number-init : goal.loop-number-init
loop-number-init c = none_match c.args.charges.now c.args.groups.now

pub returns : goal.returns
returns c = (
  λ e. all_match c.args.charges.now c.args.groups.now c.loop-number.number (omega arith) (omega arith) c.loop-number.invariant,
  λ h. refl,
)
