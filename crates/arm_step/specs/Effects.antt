-- What instructions do, said of their fields. ARM Architecture Reference Manual.
use Rattle.std.specs.Prelude.{◌≡◌, ℕ, ◌<◌, Bool, false, not, if◌then◌else◌, ⊤}
use Rattle.wx_base.specs.declared.machine.Machine.{Machine}
use Rattle.wx_base.specs.declared.image.Image.{Image}
use Rattle.wx_base.specs.declared.step.Shifted.{Shifted}
use Rattle.wx_base.specs.declared.step.Transfer.{Transfer}
use Rattle.wx_base.specs.declared.step.Datum.{Datum}
use Rattle.wx_base.specs.declared.step.Datum.TheVariants as datum
use Rattle.wx_base.specs.Shifter.{rotated_immediate}
use Rattle.wx_base.specs.State.{State, Outcome, Next, Ended, Stopped, pc, lr, jumps}
use Rattle.wx_base.specs.Step.{alu_effect, mul_effect, mul_long_effect, shift_operand, register_operand}
use Rattle.wx_base.specs.Transfer.{transfer_effect, block_effect}
use Rattle.arm_code.specs.declared.insn.Op.{Op}
use Rattle.arm_code.specs.declared.insn.Op.TheVariants as op
use Rattle.arm_code.specs.declared.insn.Operand.{Operand}
use Rattle.arm_code.specs.declared.insn.Operand.TheVariants as operand
use Rattle.arm_code.specs.declared.insn.Offset.{Offset}
use Rattle.arm_code.specs.declared.insn.Offset.TheVariants as offset
use Rattle.arm_code.specs.declared.insn.HalfOffset.{HalfOffset}
use Rattle.arm_code.specs.declared.insn.HalfOffset.TheVariants as half_offset
use Rattle.arm_code.specs.declared.insn.HalfKind.{HalfKind}
use Rattle.arm_code.specs.declared.insn.HalfKind.TheVariants.{Ldrh, Strh, Ldrsb, Ldrsh}
use Rattle.arm_code.specs.declared.insn.Index.{Index}
use Rattle.arm_code.specs.Columns.{half_loads, index_changes}
use Rattle.arm_code.specs.Flows.{offset_target, adds_before}
use Rattle.arm_step.specs.declared.cpu.Cpu.{Cpu}
use Rattle.arm_step.specs.declared.step_end.StepEnd.{StepEnd}
use Rattle.arm_step.specs.declared.step_end.StepEnd.TheVariants as end
use Rattle.arm_step.specs.Cpu.{state_of}

-- the value of an operand and the shifter's carry
abbrev pub operand_of : State → Operand → Shifted
operand_of state (operand.Imm value rot) = rotated_immediate value rot state.flags.c
operand_of state (operand.Shift register kind amount) = shift_operand state register kind amount
operand_of state (operand.ByReg register kind by) = register_operand state register kind by

-- the value of an offset
abbrev pub offset_value : State → Offset → ℕ
offset_value state (offset.Imm value) = value
offset_value state (offset.Reg register kind amount) = (shift_operand state register kind amount).value

abbrev pub half_offset_value : State → HalfOffset → ℕ
half_offset_value state (half_offset.Imm value) = value
half_offset_value state (half_offset.Reg register) = state.registers register

-- what a transfer of a half word or a signed byte moves
abbrev pub half_datum_of : HalfKind → Datum
half_datum_of Ldrh = datum.Half
half_datum_of Strh = datum.Half
half_datum_of Ldrsb = datum.SignedByte
half_datum_of Ldrsh = datum.SignedHalf

-- what a transfer of a word or byte moves
abbrev pub single_datum : Bool → Datum
single_datum byte = if byte then datum.Byte else datum.Word

-- a transfer of one register
abbrev pub transfer_of : Bool → Datum → ℕ → ℕ → Index → Bool → ℕ → Transfer
transfer_of load what to base index up by =
    record {
      load = load;
      datum = what;
      register = to;
      base = base;
      offset = by;
      up = up;
      before = adds_before index;
      changes = index_changes index;
    }

-- what an operation does whose condition holds
abbrev pub op_effect : Machine → Image → State → Op → Outcome
op_effect machine image state (op.Alu code s first to second) =
    alu_effect state code s first to (operand_of state second)
op_effect machine image state (op.Mul accumulate s result added a b) = mul_effect state accumulate s result added b a
op_effect machine image state (op.MulLong signed accumulate s hi lo a b) =
    mul_long_effect state signed accumulate s hi lo b a
op_effect machine image state (op.Single load byte to base index up by) =
    transfer_effect machine image state (transfer_of load (single_datum byte) to base index up (offset_value state by))
op_effect machine image state (op.Half kind to base index up by) =
    transfer_effect machine image state
    (transfer_of (half_loads kind) (half_datum_of kind) to base index up (half_offset_value state by))
op_effect machine image state (op.Block load before up wback base list) =
    block_effect machine image state
    (record { load = load; before = before; up = up; changes = wback; base = base; list = list })
op_effect machine image state (op.Branch link by) = jumps state link (offset_target (state.registers pc) by)
op_effect machine image state (op.Exchange link register) = jumps state link (state.registers register)
op_effect machine image state (op.Svc number) = Ended
op_effect machine image state op.MovPcLr = jumps state false (state.registers lr)

-- whether an operation stores
abbrev pub stores : Op → Bool
stores (op.Alu code s first to second) = false
stores (op.Mul accumulate s result added a b) = false
stores (op.MulLong signed accumulate s hi lo a b) = false
stores (op.Single load byte to base index up by) = not load
stores (op.Half kind to base index up by) = not (half_loads kind)
stores (op.Block load before up wback base list) = not load
stores (op.Branch link by) = false
stores (op.Exchange link register) = false
stores (op.Svc number) = false
stores op.MovPcLr = false

-- what a step came to, with the processor after it, as an outcome of the definition
abbrev pub outcome_of : Image → Cpu → StepEnd → Outcome
outcome_of image cpu (end.Next taken slow) =
    Next (record { state = state_of image cpu; taken = taken; slow = slow })
outcome_of image cpu end.Ended = Ended
outcome_of image cpu (end.Stopped why addr) = Stopped why

-- an outcome that goes on
abbrev pub GoesOn : Outcome → Type 0
GoesOn (Next went) = ⊤
GoesOn Ended = ⊥
GoesOn (Stopped why) = ⊥

-- what is left as it was: everything, but for an instruction that goes on
abbrev pub Keeps : StepEnd → Cpu → Cpu → Type 0
Keeps (end.Next taken slow) old new = ⊤
Keeps end.Ended old new = new ≡ old
Keeps (end.Stopped why addr) old new = new ≡ old

-- a stop names this address
abbrev pub StopsAt : ℕ → StepEnd → Type 0
StopsAt address (end.Next taken slow) = ⊤
StopsAt address end.Ended = ⊤
StopsAt address (end.Stopped why addr) = addr ≡ address

-- the operand can be rotated
abbrev pub OperandFits : Operand → Type 0
OperandFits (operand.Imm value rot) = rot < 16
OperandFits (operand.Shift register kind amount) = ⊤
OperandFits (operand.ByReg register kind by) = ⊤

-- the registers that an operation sets are among the sixteen
abbrev pub OpFits : Op → Type 0
OpFits (op.Alu code s first to second) = (to < 16) × OperandFits second
OpFits (op.Mul accumulate s result added a b) = result < 16
OpFits (op.MulLong signed accumulate s hi lo a b) = (hi < 16) × (lo < 16)
OpFits (op.Single load byte to base index up by) = (to < 16) × (base < 16)
OpFits (op.Half kind to base index up by) = (to < 16) × (base < 16)
OpFits (op.Block load before up wback base list) = base < 16
OpFits (op.Branch link by) = ⊤
OpFits (op.Exchange link register) = ⊤
OpFits (op.Svc number) = ⊤
OpFits op.MovPcLr = ⊤
