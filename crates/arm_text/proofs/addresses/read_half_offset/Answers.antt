-- A register begins with a letter and not with a sign; a number has its mark.
use Rattle.std.proofs.Common.{◌++◌, ℕ, Option, Some, ◌∙◌, ap, arith}
use Rattle.arm_code.specs.declared.insn.HalfOffset.{HalfOffset}
use Rattle.arm_code.specs.declared.insn.HalfOffset.TheVariants as offset_of
use Rattle.std.specs.Prelude.{Bool}
use Rattle.std.specs.Option.{option_map}
use Rattle.arm_text.specs.Names.{register_name}
use Rattle.arm_text.specs.Text.{sign}
use Rattle.wx_text.specs.Decimal.{decimal}
use Rattle.arm_text.proofs.Distinct.{register_letter}
use Rattle.arm_text.proofs.addresses.read_half_offset.Goals as goal

pub returns-in_err-rm-clause-complete : goal.returns-in_err-rm-clause-complete
returns-in_err-rm-clause-complete c up (offset_of.Imm value) fits same =
    absurd (c.in_default.ensures (sign up ++ decimal value) (search (same, c.as_slice.ensures)))
returns-in_err-rm-clause-complete c up (offset_of.Reg register) fits same =
    let parts = c.split_sign-up.ensures.complete up (register_name register)
    (λ dash. let letter = register_letter register fits in omega arith) same in
    let read = c.in_err-rm.ensures.complete register fits parts.1 in
    absurd (cc)

pub returns-clause-complete : goal.returns-clause-complete
returns-clause-complete c up (offset_of.Imm value) fits same =
    absurd (c.in_default.ensures (sign up ++ decimal value) (search (same, c.as_slice.ensures)))
returns-clause-complete c up (offset_of.Reg register) fits same =
    let parts = c.split_sign-up.ensures.complete up (register_name register)
    (λ dash. let letter = register_letter register fits in omega arith) same in
    let signed : Bool → Option (Bool × HalfOffset) = λ k. Some (k, offset_of.Reg c.in_ok-rm.rm) in
    let register_by : ℕ → Bool × HalfOffset = λ p. (up, offset_of.Reg p) in
    ap signed parts.0 ∙ ap (option_map register_by) (c.in_ok-rm.ensures.complete register fits parts.1)
