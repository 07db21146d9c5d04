use Rattle.std.proofs.Common.{◌≡◌, ◌∙◌, ◌++◌, ap, arith}
use Rattle.arm_step.specs.Cpu.{registers_of}
use Rattle.arm_step.specs.Blocks.{bytes_below, bytes_at}
use Rattle.arm_step.proofs.Blocks.{bytes_more, all_bytes}
use Rattle.arm_step.proofs.block.bytes_of.Goals as goal

pub loop-register-preserved : goal.loop-register-preserved
loop-register-preserved c = record {
  items = c.push_one.ensures.items
      ∙ ap (λ bytes. bytes ++ bytes_at (registers_of c.args.regs.now) c.args.list c.loop-register.register) c.loop-register.invariant.items
      ∙ bytes_more (registers_of c.args.regs.now) c.args.list c.loop-register.register;
  len = omega (arith, c.push_one.ensures.len, c.loop-register.invariant.len);
}

pub returns : goal.returns
returns c =
    let ended : c.loop-register.register ≡ 16 = omega arith in
    c.loop-register.invariant.items ∙ ap (bytes_below (registers_of c.args.regs.now) c.args.list) ended
    ∙ all_bytes (registers_of c.args.regs.now) c.args.list
