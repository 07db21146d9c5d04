-- The forms of an operand exclude each other.
use Rattle.std.proofs.Common.{ℕ, ap}
use Rattle.std.specs.Option.{option_map}
use Rattle.arm_code.specs.declared.insn.Operand.TheVariants as operand
use Rattle.arm_text.proofs.Shapes.{not_both}
use Rattle.arm_text.proofs.reading.read_operand.Goals as goal

pub returns-in-Some-read_shifted-clause-complete : goal.returns-in-Some-read_shifted-clause-complete
returns-in-Some-read_shifted-clause-complete c (operand.Imm value rot) fits same =
    let read = c.in_default.ensures.complete value rot fits.0 fits.1 same in cc
returns-in-Some-read_shifted-clause-complete c (operand.Shift register kind amount) fits same =
    ap (option_map (λ (p : ℕ × ℕ × ℕ). operand.Shift p.0 p.1 p.2))
    (c.in-Some-read_shifted.ensures.complete register kind amount fits.0 fits.1 fits.2 same)
returns-in-Some-read_shifted-clause-complete c (operand.ByReg register kind amount) fits same =
    let read = c.in-Some-read_shifted.ensures.sound in
    absurd (not_both c.in-Some-read_shifted.rm c.in-Some-read_shifted.kind c.in-Some-read_shifted.amount register kind amount
    c.args.text.now read.0 read.1 fits.0 fits.1 fits.2 read.3 same)

pub returns-in_err-rm-clause-complete : goal.returns-in_err-rm-clause-complete
returns-in_err-rm-clause-complete c (operand.Imm value rot) fits same =
    let read = c.in_default.ensures.complete value rot fits.0 fits.1 same in cc
returns-in_err-rm-clause-complete c (operand.Shift register kind amount) fits same =
    let read = c.in_default-read_shifted.ensures.complete register kind amount fits.0 fits.1 fits.2 same in cc
returns-in_err-rm-clause-complete c (operand.ByReg register kind amount) fits same =
    let read = c.in_err-rm.ensures.complete register kind amount fits.0 fits.1 fits.2 same in cc

pub returns-clause-complete : goal.returns-clause-complete
returns-clause-complete c (operand.Imm value rot) fits same =
    let read = c.in_default.ensures.complete value rot fits.0 fits.1 same in cc
returns-clause-complete c (operand.Shift register kind amount) fits same =
    let read = c.in_default-read_shifted.ensures.complete register kind amount fits.0 fits.1 fits.2 same in cc
returns-clause-complete c (operand.ByReg register kind amount) fits same =
    ap (option_map (λ (p : ℕ × ℕ × ℕ). operand.ByReg p.0 p.1 p.2))
    (c.in_ok-rm.ensures.complete register kind amount fits.0 fits.1 fits.2 same)
