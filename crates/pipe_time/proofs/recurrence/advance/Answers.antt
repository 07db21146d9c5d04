use Rattle.pipe_time.specs.Entries.{entry_of}
use Rattle.pipe_time.proofs.Bounds.{slots_grow_little}
use Rattle.pipe_time.proofs.recurrence.advance.Goals as goal

pub returns-clause-growth : goal.returns-clause-growth
returns-clause-growth c = λ bound h.
    rw (c.slots_behind-v.ensures, c.times_of-times.ensures.value)
    (slots_grow_little c.args.m.now bound c.args.v.now.slots (entry_of c.args.e.now) c.requires.machine h)
