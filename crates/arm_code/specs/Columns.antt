-- What instructions read and write, said of their fields. ARM Architecture Reference Manual.
use Rattle.std.specs.Prelude.{ℕ, Bool, true, false, ◌==◌, not, bit_or, count_ones}
use Rattle.wx_base.specs.declared.machine.UnitKind.{UnitKind}
use Rattle.wx_base.specs.declared.machine.UnitKind.TheVariants as unit_kind
use Rattle.arm_code.specs.declared.insn.Insn.{Insn}
use Rattle.arm_code.specs.declared.insn.Op.{Op}
use Rattle.arm_code.specs.declared.insn.Op.TheVariants as op
use Rattle.arm_code.specs.declared.insn.Operand.{Operand}
use Rattle.arm_code.specs.declared.insn.Operand.TheVariants as operand
use Rattle.arm_code.specs.declared.insn.Offset.{Offset}
use Rattle.arm_code.specs.declared.insn.Offset.TheVariants as offset_of
use Rattle.arm_code.specs.declared.insn.HalfOffset.{HalfOffset}
use Rattle.arm_code.specs.declared.insn.HalfOffset.TheVariants as half_offset_of
use Rattle.arm_code.specs.declared.insn.HalfKind.{HalfKind}
use Rattle.arm_code.specs.declared.insn.HalfKind.TheVariants.{Ldrh, Strh, Ldrsb, Ldrsh}
use Rattle.arm_code.specs.declared.insn.Index.{Index}
use Rattle.arm_code.specs.declared.insn.Index.TheVariants.{Plain, Pre, Post}
use Rattle.wx_base.specs.Instruction.{always, register_bit, flags_bit, where_so, list_bits, alu_reads, shift_reads, two_registers, mul_reads, transfer_reads, result_writes, alu_writes, transfer_writes, link_writes}

-- what an operand reads
abbrev pub operand_reads : Operand → ℕ
operand_reads (operand.Imm value rot) = 0
operand_reads (operand.Shift register kind amount) = shift_reads register kind amount
operand_reads (operand.ByReg register kind amount) = two_registers register amount

-- what an offset reads
abbrev pub offset_reads : Offset → ℕ
offset_reads (offset_of.Imm value) = 0
offset_reads (offset_of.Reg register kind amount) = register_bit register

abbrev pub half_offset_reads : HalfOffset → ℕ
half_offset_reads (half_offset_of.Imm value) = 0
half_offset_reads (half_offset_of.Reg register) = register_bit register

-- whether a transfer of a half word or a signed byte loads
abbrev pub half_loads : HalfKind → Bool
half_loads Ldrh = true
half_loads Strh = false
half_loads Ldrsb = true
half_loads Ldrsh = true

-- whether the base is changed
abbrev pub index_changes : Index → Bool
index_changes Plain = false
index_changes Pre = true
index_changes Post = true

-- what an operation reads, its condition aside
abbrev pub op_reads : Op → ℕ
op_reads (op.Alu code s first to second) = alu_reads code first (operand_reads second)
op_reads (op.Mul accumulate s result added a b) = mul_reads b a accumulate (register_bit added)
op_reads (op.MulLong signed accumulate s hi lo a b) = mul_reads b a accumulate (two_registers hi lo)
op_reads (op.Single load byte to base index up by) = transfer_reads load base (offset_reads by) (register_bit to)
op_reads (op.Half kind to base index up by) =
    transfer_reads (half_loads kind) base (half_offset_reads by) (register_bit to)
op_reads (op.Block load before up wback base list) = transfer_reads load base 0 (list_bits list)
op_reads (op.Branch link by) = 0
op_reads (op.Exchange link register) = register_bit register
op_reads (op.Svc number) = 0
op_reads op.MovPcLr = register_bit 14

-- what an instruction reads
abbrev pub insn_reads : Insn → ℕ
insn_reads insn = bit_or (where_so (not (insn.cond == always)) flags_bit) (op_reads insn.op)

-- what an operation writes
abbrev pub op_writes : Op → ℕ
op_writes (op.Alu code s first to second) = alu_writes code s to
op_writes (op.Mul accumulate s result added a b) = result_writes s (register_bit result)
op_writes (op.MulLong signed accumulate s hi lo a b) = result_writes s (two_registers hi lo)
op_writes (op.Single load byte to base index up by) = transfer_writes load (index_changes index) base (register_bit to)
op_writes (op.Half kind to base index up by) =
    transfer_writes (half_loads kind) (index_changes index) base (register_bit to)
op_writes (op.Block load before up wback base list) = transfer_writes load wback base (list_bits list)
op_writes (op.Branch link by) = link_writes link
op_writes (op.Exchange link register) = link_writes link
op_writes (op.Svc number) = 0
op_writes op.MovPcLr = 0

-- the unit that an operation takes
abbrev pub op_unit : Op → UnitKind
op_unit (op.Alu code s first to second) = unit_kind.Alu
op_unit (op.Mul accumulate s result added a b) = unit_kind.Mul
op_unit (op.MulLong signed accumulate s hi lo a b) = unit_kind.Mul
op_unit (op.Single load byte to base index up by) = unit_kind.Mem
op_unit (op.Half kind to base index up by) = unit_kind.Mem
op_unit (op.Block load before up wback base list) = unit_kind.Mem
op_unit (op.Branch link by) = unit_kind.Alu
op_unit (op.Exchange link register) = unit_kind.Alu
op_unit (op.Svc number) = unit_kind.Alu
op_unit op.MovPcLr = unit_kind.Alu

-- how many registers it transfers as a block, else 1
abbrev pub op_transfers : Op → ℕ
op_transfers (op.Block load before up wback base list) = count_ones list
op_transfers (op.Alu code s first to second) = 1
op_transfers (op.Mul accumulate s result added a b) = 1
op_transfers (op.MulLong signed accumulate s hi lo a b) = 1
op_transfers (op.Single load byte to base index up by) = 1
op_transfers (op.Half kind to base index up by) = 1
op_transfers (op.Branch link by) = 1
op_transfers (op.Exchange link register) = 1
op_transfers (op.Svc number) = 1
op_transfers op.MovPcLr = 1
