use Rattle.std.proofs.Common.{sym}
use Rattle.arm_step.proofs.Stored.{block_stored}
use Rattle.arm_step.proofs.block.block.Goals as goal

pub returns-clause-effect : goal.returns-clause-effect
returns-clause-effect c =
    block_stored c.args.machine.now c.args.image.now c.args.cpu.now c.store.new.cpu c.args.t.now c.register.result
    c.block_first-first.result c.block_size-size.result c.is_slow_access-slow.result c.register.ensures
    c.block_first-first.ensures c.block_size-size.ensures c.if-register-ne0.false c.if-t.false
    (sym c.if-meets_code.ensures) c.is_slow_access-slow.ensures c.in_ok-store.ensures.registers
    c.in_ok-store.ensures.flags (c.in_ok-store.ensures.memory c.args.image.now)
