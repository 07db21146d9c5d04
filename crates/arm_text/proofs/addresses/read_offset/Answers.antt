-- A register begins with a letter and not with a sign; a number has its mark.
use Rattle.std.proofs.Common.{◌++◌, ℕ, Option, Some, ◌∙◌, ap, arith}
use Rattle.arm_code.specs.declared.insn.Offset.{Offset}
use Rattle.arm_code.specs.declared.insn.Offset.TheVariants as offset_of
use Rattle.std.specs.Prelude.{Bool}
use Rattle.std.specs.Option.{option_map}
use Rattle.arm_text.specs.Text.{sign, shift_text, shifted_text}
use Rattle.wx_text.specs.Decimal.{decimal}
use Rattle.arm_text.proofs.Distinct.{register_front}
use Rattle.arm_text.proofs.AddressParts.{signed_register}
use Rattle.arm_text.proofs.addresses.read_offset.Goals as goal

pub returns-in_err-rm-clause-complete : goal.returns-in_err-rm-clause-complete
returns-in_err-rm-clause-complete c up (offset_of.Imm value) fits same =
    absurd (c.in_default.ensures (sign up ++ decimal value) (search (same, c.as_slice.ensures)))
returns-in_err-rm-clause-complete c up (offset_of.Reg register kind amount) fits same =
    let parts = c.split_sign-up.ensures.complete up (shifted_text register kind amount)
    (λ dash. let letter = register_front register (shift_text kind amount) fits.0 in omega arith)
    (same ∙ signed_register up register kind amount) in
    let read = c.in_err-rm.ensures.complete register kind amount fits.0 fits.1 fits.2 parts.1 in
    absurd (cc)

pub returns-clause-complete : goal.returns-clause-complete
returns-clause-complete c up (offset_of.Imm value) fits same =
    absurd (c.in_default.ensures (sign up ++ decimal value) (search (same, c.as_slice.ensures)))
returns-clause-complete c up (offset_of.Reg register kind amount) fits same =
    let parts = c.split_sign-up.ensures.complete up (shifted_text register kind amount)
    (λ dash. let letter = register_front register (shift_text kind amount) fits.0 in omega arith)
    (same ∙ signed_register up register kind amount) in
    let signed : Bool → Option (Bool × Offset) = λ k. Some (k, offset_of.Reg c.in_ok-rm.rm c.in_ok-rm.kind c.in_ok-rm.amount) in
    let register_by : ℕ × ℕ × ℕ → Bool × Offset = λ p. (up, offset_of.Reg p.0 p.1 p.2) in
    ap signed parts.0 ∙ ap (option_map register_by) (c.in_ok-rm.ensures.complete register kind amount fits.0 fits.1 fits.2 parts.1)
