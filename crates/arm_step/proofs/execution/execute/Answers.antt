use Rattle.std.proofs.Common.{◌∙◌, sym, ap}
use Rattle.arm_step.specs.Cpu.{state_of}
use Rattle.arm_step.specs.Effects.{op_effect}
use Rattle.arm_step.proofs.Done.{alu_done, mul_done, mul_long_done}
use Rattle.arm_step.proofs.execution.execute.Goals as goal

pub returns-in-Alu-clause-effect : goal.returns-in-Alu-clause-effect
returns-in-Alu-clause-effect c =
    alu_done c.args.machine.now c.args.image.now c.args.cpu.now c.alu.new.cpu c.in-Alu.op c.in-Alu.s c.in-Alu.rn c.in-Alu.rd
    c.in-Alu.operand c.operand_of-second.result c.went_on.result c.went_on.ensures
    (c.operand_of-second.ensures c.args.image.now) c.alu.ensures.registers c.alu.ensures.flags c.alu.ensures.memory
    ∙ ap (op_effect c.args.machine.now c.args.image.now (state_of c.args.image.now c.args.cpu.now)) (sym c.in-Alu.is)

pub returns-in-Mul-clause-effect : goal.returns-in-Mul-clause-effect
returns-in-Mul-clause-effect c =
    mul_done c.args.machine.now c.args.image.now c.args.cpu.now c.mul-slow.new.cpu c.in-Mul.accumulate c.in-Mul.s c.in-Mul.rd c.in-Mul.rn
    c.in-Mul.rs c.in-Mul.rm c.mul-slow.result c.went_on-in-Mul.result c.went_on-in-Mul.ensures c.mul-slow.ensures.registers
    c.mul-slow.ensures.flags c.mul-slow.ensures.memory c.mul-slow.ensures.slow
    ∙ ap (op_effect c.args.machine.now c.args.image.now (state_of c.args.image.now c.args.cpu.now)) (sym c.in-Mul.is)

pub returns-in-MulLong-clause-effect : goal.returns-in-MulLong-clause-effect
returns-in-MulLong-clause-effect c =
    mul_long_done c.args.machine.now c.args.image.now c.args.cpu.now c.mul_long-slow.new.cpu c.in-MulLong.signed c.in-MulLong.accumulate
    c.in-MulLong.s c.in-MulLong.hi c.in-MulLong.lo c.in-MulLong.rs c.in-MulLong.rm c.mul_long-slow.result
    c.went_on-in-MulLong.result c.went_on-in-MulLong.ensures c.mul_long-slow.ensures.registers
    c.mul_long-slow.ensures.flags c.mul_long-slow.ensures.memory c.mul_long-slow.ensures.slow
    ∙ ap (op_effect c.args.machine.now c.args.image.now (state_of c.args.image.now c.args.cpu.now)) (sym c.in-MulLong.is)
