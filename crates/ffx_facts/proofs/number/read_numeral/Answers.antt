use Rattle.std.proofs.Common.{◌*◌, ◌+◌, ◌^◌, ◌≤◌, get_or, ◌∙◌, arith}
use Rattle.std.specs.Char.{digit_value}
use Rattle.ffx_facts.proofs.Numerals.{too_large}
use Rattle.ffx_facts.proofs.number.read_numeral.Goals as goal

pub returns-in_err-checked_mul : goal.returns-in_err-checked_mul
returns-in_err-checked_mul c =
    let large : 2 ^ 32 ≤ c.loop-byte.value * c.args.radix + digit_value (get_or c.args.digits.now c.loop-byte.byte-index 0) = omega (arith, c.in_err-checked_mul.ensures) in
    c.from_residual-in_err-checked_mul.ensures ∙ too_large (2 ^ 32) c.args.radix c.loop-byte.value c.loop-byte.byte-index c.args.digits.now _ c.loop-byte-test.true c.requires.some large c.loop-byte.invariant.left

pub returns-in_err-value : goal.returns-in_err-value
returns-in_err-value c =
    let large : 2 ^ 32 ≤ c.loop-byte.value * c.args.radix + digit_value (get_or c.args.digits.now c.loop-byte.byte-index 0) = omega (arith, c.in_err-value.ensures, c.in_ok-checked_mul.ensures, c.in_ok-digit.ensures) in
    c.from_residual-in_err-value.ensures ∙ too_large (2 ^ 32) c.args.radix c.loop-byte.value c.loop-byte.byte-index c.args.digits.now _ c.loop-byte-test.true c.requires.some large c.loop-byte.invariant.left
