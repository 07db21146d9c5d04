use Rattle.std.proofs.Common.{◌≡◌, arith, true}
use Rattle.std.proofs.lemmas.List.Elements.{All-more}
use Rattle.wx_text.specs.Cursor.{is_hex_digit}
use Rattle.wx_text.proofs.DigitLemmas.{digit_more, hex_room, hex_more}
use Rattle.wx_text.proofs.cursor.hex_number.Goals as goal

pub overflow_mul-value : goal.overflow_mul-value
overflow_mul-value c = omega (arith, hex_room c.loop-digit.value c.loop-digit.digit-index c.loop-digit.invariant.small (omega arith))

pub overflow_add-value : goal.overflow_add-value
overflow_add-value c = omega (arith, c.in_ok-value.ensures.small, hex_room c.loop-digit.value c.loop-digit.digit-index c.loop-digit.invariant.small (omega arith))

pub loop-digit-preserved : goal.loop-digit-preserved
loop-digit-preserved c = record {
  value = digit_more 16 c.loop-digit.value c.in_ok-value.field-0 c.loop-digit.digit-index c.args.digits.now c.loop-digit-test.true c.loop-digit.invariant.value c.in_ok-value.ensures.value.1;
  small = hex_more c.loop-digit.value c.in_ok-value.field-0 c.loop-digit.digit-index c.loop-digit.invariant.small c.in_ok-value.ensures.small;
  digits = All-more (λ x. is_hex_digit x ≡ true) c.args.digits.now c.loop-digit.digit-index 0 c.loop-digit-test.true c.loop-digit.invariant.digits c.in_ok-value.ensures.value.0;
}
