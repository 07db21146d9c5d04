-- What was done to registers, flags and memory is the effect of the operation.
use Rattle.std.proofs.Common.{◌≡◌, ℕ, Bool, false, cond, ◌==◌, ap, ◌∙◌}
use Rattle.wx_base.specs.declared.machine.Machine.{Machine}
use Rattle.wx_base.specs.declared.image.Image.{Image}
use Rattle.wx_base.specs.declared.step.Shifted.{Shifted}
use Rattle.wx_base.specs.Bits.{is_in, is_negative}
use Rattle.wx_base.specs.Arithmetic.{computed, product_flags, is_slow_factor}
use Rattle.wx_base.specs.State.{Next, goes_on, pc, replaced, value_of, next_address}
use Rattle.wx_base.specs.Step.{alu_registers, alu_flags, alu_effect, product_in, mul_effect, long_product_in, long_registers, mul_long_effect}
use Rattle.arm_code.specs.declared.insn.Op.TheVariants as op
use Rattle.arm_code.specs.declared.insn.Operand.{Operand}
use Rattle.arm_step.specs.declared.cpu.Cpu.{Cpu}
use Rattle.arm_step.specs.declared.step_end.StepEnd.{StepEnd}
use Rattle.arm_step.specs.declared.step_end.StepEnd.TheVariants as end
use Rattle.arm_step.specs.Cpu.{held, registers_of, flags_in, state_of}
use Rattle.arm_step.specs.Effects.{operand_of, op_effect, outcome_of}

-- the instruction's condition failed
pub skip_done : (image : Image) (old new : Cpu) (e : StepEnd) → e ≡ end.Next false false
    → registers_of new.regs ≡ replaced (registers_of old.regs) pc (next_address (registers_of old.regs)) → flags_in new ≡ flags_in old → new.memory ≡ old.memory
    → outcome_of image new e ≡ goes_on (state_of image old) (registers_of old.regs) (flags_in old) false
skip_done image old new e is registers flags memory =
    ap (outcome_of image new) is
    ∙ (λ i. Next (record { state = record { registers = registers i; flags = flags i; memory = held image (memory i) }; taken = false; slow = false }))

pub alu_done : (machine : Machine) (image : Image) (old new : Cpu) (code : ℕ) (s : Bool) (first to : ℕ) (operand : Operand) (second : Shifted) (e : StepEnd)
    → e ≡ end.Next false false → second ≡ operand_of (state_of image old) operand
    → registers_of new.regs ≡ replaced (alu_registers (registers_of old.regs) code to (computed code (value_of (registers_of old.regs) first) second (flags_in old)).value) pc (next_address (registers_of old.regs))
    → flags_in new ≡ alu_flags (flags_in old) s (computed code (value_of (registers_of old.regs) first) second (flags_in old))
    → new.memory ≡ old.memory
    → outcome_of image new e ≡ op_effect machine image (state_of image old) (op.Alu code s first to operand)
unfolding alu_effect
alu_done machine image old new code s first to operand second e is read registers flags memory =
    ap (outcome_of image new) is
    ∙ (λ i. Next (record { state = record { registers = registers i; flags = flags i; memory = held image (memory i) }; taken = false; slow = false }))
    ∙ ap (alu_effect (state_of image old) code s first to) read

pub mul_done : (machine : Machine) (image : Image) (old new : Cpu) (accumulate s : Bool) (to added a b : ℕ) (slow : Bool) (e : StepEnd)
    → e ≡ end.Next false slow
    → registers_of new.regs ≡ replaced (replaced (registers_of old.regs) to (product_in (registers_of old.regs) accumulate added b a)) pc (next_address (registers_of old.regs))
    → flags_in new ≡ cond s (product_flags (is_negative (product_in (registers_of old.regs) accumulate added b a)) (product_in (registers_of old.regs) accumulate added b a == 0) (flags_in old)) (flags_in old)
    → new.memory ≡ old.memory → slow ≡ is_slow_factor (registers_of old.regs a)
    → outcome_of image new e ≡ op_effect machine image (state_of image old) (op.Mul accumulate s to added a b)
unfolding mul_effect
mul_done machine image old new accumulate s to added a b slow e is registers flags memory slows =
    ap (outcome_of image new) is
    ∙ (λ i. Next (record { state = record { registers = registers i; flags = flags i; memory = held image (memory i) }; taken = false; slow = slows i }))

pub mul_long_done : (machine : Machine) (image : Image) (old new : Cpu) (signed accumulate s : Bool) (hi lo a b : ℕ) (slow : Bool) (e : StepEnd)
    → e ≡ end.Next false slow
    → registers_of new.regs ≡ replaced (long_registers (registers_of old.regs) hi lo (long_product_in (registers_of old.regs) signed accumulate hi lo b a)) pc (next_address (registers_of old.regs))
    → flags_in new ≡ cond s (product_flags (is_in (long_product_in (registers_of old.regs) signed accumulate hi lo b a) 63) (long_product_in (registers_of old.regs) signed accumulate hi lo b a == 0) (flags_in old)) (flags_in old)
    → new.memory ≡ old.memory → slow ≡ is_slow_factor (registers_of old.regs a)
    → outcome_of image new e ≡ op_effect machine image (state_of image old) (op.MulLong signed accumulate s hi lo a b)
unfolding mul_long_effect
mul_long_done machine image old new signed accumulate s hi lo a b slow e is registers flags memory slows =
    ap (outcome_of image new) is
    ∙ (λ i. Next (record { state = record { registers = registers i; flags = flags i; memory = held image (memory i) }; taken = false; slow = slows i }))
