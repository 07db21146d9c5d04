use Rattle.std.proofs.Common.{◌≡◌, arith, ap, ◌∙◌}
use Rattle.std.proofs.lemmas.List.{take_all}
use Rattle.std.specs.Str.Parse.{digits_value}
use Rattle.wx_text.proofs.DigitLemmas.{one_more}
use Rattle.wx_text.proofs.cursor.decimal_value.Goals as goal

pub returns-in_err-checked_mul : goal.returns-in_err-checked_mul
returns-in_err-checked_mul c =
    let more = one_more c.loop-digit.value c.loop-digit.digit-index c.args.digits.now c.loop-digit-test.true c.requires c.loop-digit.invariant.value in
    rw c.from_residual.ensures (λ small. c.in_err-checked_mul.ensures (omega (arith, more.within)))

pub returns-in_err-value : goal.returns-in_err-value
returns-in_err-value c =
    let more = one_more c.loop-digit.value c.loop-digit.digit-index c.args.digits.now c.loop-digit-test.true c.requires c.loop-digit.invariant.value in
    rw c.from_residual-in_err-value.ensures (λ small. c.in_err-value.ensures (omega (arith, more.within, c.in_ok-checked_mul.ensures)))

pub loop-digit-preserved : goal.loop-digit-preserved
loop-digit-preserved c =
    let more = one_more c.loop-digit.value c.loop-digit.digit-index c.args.digits.now c.loop-digit-test.true c.requires c.loop-digit.invariant.value in
    record {
      value = omega (arith, more.value, c.in_ok-value.ensures, c.in_ok-checked_mul.ensures);
      small = omega (arith, c.in_ok-value.ensures);
    }

pub returns : goal.returns
returns c =
    let e : c.loop-digit.value ≡ digits_value 10 c.args.digits.now = c.loop-digit.invariant.value ∙ ap (digits_value 10) (take_all c.loop-digit.digit-index c.args.digits.now (omega arith)) in
    (omega (arith, e, c.loop-digit.invariant.small), e)
