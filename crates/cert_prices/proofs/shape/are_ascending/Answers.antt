use Rattle.std.proofs.Common.{arith, refl}
use Rattle.std.proofs.lemmas.Bool.{false≢true}
use Rattle.cert_prices.proofs.ShapeLemmas.{all_ascend, none_ascend, not_ascending}
use Rattle.cert_prices.proofs.shape.are_ascending.Goals as goal

pub loop-number-init : goal.loop-number-init
loop-number-init c = none_ascend c.args.totals.now

pub returns-then-totals-number : goal.returns-then-totals-number
returns-then-totals-number c = (
  λ e. absurd (false≢true e),
  λ h. absurd (not_ascending c.args.totals.now c.loop-number.number _ _ (omega arith) c.loop-number-test.true c.if-totals-number.true h),
)

pub returns : goal.returns
returns c = (λ e. all_ascend c.args.totals.now c.loop-number.number (omega arith) c.loop-number.invariant, λ h. refl)
