use Rattle.pipe_time.proofs.Slots.{far_fe, far_d}
use Rattle.pipe_time.proofs.equations.base.Goals as goal

pub returns : goal.returns
returns c =
    let m = c.args.m.now in
    let fe = far_fe c.args.slots.now m.width c.requires.width in
    let d = far_d c.args.slots.now m.queue c.requires.queue in
    rw (← fe, ← d) (cc)
