use Rattle.std.proofs.Common.{sym}
use Rattle.arm_step.proofs.Stored.{stored}
use Rattle.arm_step.proofs.transfer.transfer.Goals as goal

pub returns-clause-effect : goal.returns-clause-effect
returns-clause-effect c =
    stored c.args.machine.now c.args.image.now c.args.cpu.now c.store.new.cpu c.args.t.now
    c.address_of-addr.result c.size_of-size.result c.is_slow_access-slow.result c.address_of-addr.ensures
    c.size_of-size.ensures c.if-addr-size-ne0.false c.if-t.false (sym c.if-meets_code.ensures)
    c.is_slow_access-slow.ensures c.in_ok-store.ensures.registers c.in_ok-store.ensures.flags
    (c.in_ok-store.ensures.memory c.args.image.now)
