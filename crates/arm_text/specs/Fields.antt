-- The ranges of an instruction's fields, and what its text leaves out: a comparison sets flags and has no result, a move
-- has no first operand, a product is added to nothing unless it accumulates.
use Rattle.std.specs.Prelude.{◌≡◌, ◌≢◌, ⊤, ℤ, pos, neg_ℤ, ◌≤ℤ◌, ◌<ℤ◌, ◌<◌, ◌^◌, true, false}
use Rattle.wx_base.specs.Instruction.{is_compare, is_move}
use Rattle.arm_code.specs.declared.insn.Op.{Op}
use Rattle.arm_code.specs.declared.insn.Op.TheVariants as op
use Rattle.arm_code.specs.declared.insn.Operand.{Operand}
use Rattle.arm_code.specs.declared.insn.Operand.TheVariants as operand
use Rattle.arm_code.specs.declared.insn.Offset.{Offset}
use Rattle.arm_code.specs.declared.insn.Offset.TheVariants as offset_of
use Rattle.arm_code.specs.declared.insn.HalfOffset.{HalfOffset}
use Rattle.arm_code.specs.declared.insn.HalfOffset.TheVariants as half_offset_of

-- 24 bits with a sign
abbrev pub IsBranchOffset : ℤ → Type 0
IsBranchOffset words = (neg_ℤ (pos (2 ^ 23)) ≤ℤ words) × (words <ℤ pos (2 ^ 23))

-- the fields of a second operand: eight bits and their rotation, or registers, a kind of shift and an amount
abbrev pub OperandFits : Operand → Type 0
OperandFits (operand.Imm value rot) = (value < 256) × (rot < 16)
OperandFits (operand.Shift register kind amount) = (register < 16) × (kind < 4) × (amount < 32)
OperandFits (operand.ByReg register kind amount) = (register < 16) × (kind < 4) × (amount < 16)

-- the fields of an offset, and of one of a half word
abbrev pub OffsetFits : Offset → Type 0
OffsetFits (offset_of.Imm value) = value < 2 ^ 12
OffsetFits (offset_of.Reg register kind amount) = (register < 16) × (kind < 4) × (amount < 32)

abbrev pub HalfOffsetFits : HalfOffset → Type 0
HalfOffsetFits (half_offset_of.Imm value) = value < 256
HalfOffsetFits (half_offset_of.Reg register) = register < 16

-- the fields of an operation
abbrev pub OpFits : Op → Type 0
OpFits (op.Alu code flags first to second) =
    (code < 16) × (first < 16) × (to < 16) × OperandFits second × (is_compare code ≡ true → flags ≡ true)
    × (is_compare code ≡ true → to ≡ 0) × (is_move code ≡ true → first ≡ 0) × (to ≢ 15)
OpFits (op.Mul accumulate flags to added second first) =
    (to < 16) × (added < 16) × (second < 16) × (first < 16) × (accumulate ≡ false → added ≡ 0)
OpFits (op.MulLong signed accumulate flags high low second first) = (high < 16) × (low < 16) × (second < 16) × (first < 16)
OpFits (op.Single load byte to base index up by) = (to < 16) × (base < 16) × OffsetFits by
OpFits (op.Half kind to base index up by) = (to < 16) × (base < 16) × HalfOffsetFits by
OpFits (op.Block load before up wback base list) = (base < 16) × (list < 2 ^ 16)
OpFits (op.Branch link words) = IsBranchOffset words
OpFits (op.Exchange link register) = register < 16
OpFits (op.Svc number) = number < 2 ^ 24
OpFits op.MovPcLr = ⊤
