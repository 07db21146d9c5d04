-- The bytes of the registers below this one.
use Rattle.std.proofs.Common.{◌≡◌, ◌≤◌, ◌*◌}
use Rattle.arrayvec.specs.ArrayVec.{array_vec_len}
use Rattle.arm_step.specs.Cpu.{registers_of}
use Rattle.arm_step.specs.Blocks.{bytes_below}
use Rattle.arm_step.proofs.block.bytes_of.Given as goal

abbrev pub invariant-loop-register : goal.invariant-loop-register
invariant-loop-register l = record {
  items : l.bytes.items ≡ bytes_below (registers_of l.regs) l.list l.register;
  len : array_vec_len l.bytes ≤ 4 * l.register;
}
