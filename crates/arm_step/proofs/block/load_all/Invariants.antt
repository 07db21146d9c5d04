-- The registers below this one are loaded, and the next word is its own.
use Rattle.std.proofs.Common.{◌≡◌}
use Rattle.arm_step.specs.Cpu.{held, registers_of}
use Rattle.arm_step.specs.Blocks.{place_of, loaded_below}
use Rattle.arm_step.proofs.block.load_all.Given as goal

abbrev pub invariant-loop-register : goal.invariant-loop-register
invariant-loop-register l = record {
  loaded : registers_of l.regs ≡ loaded_below (registers_of l.initial.regs) (held l.image l.memory) l.list l.first l.register;
  place : l.addr ≡ place_of l.list l.first l.register;
}
