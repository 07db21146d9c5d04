use Rattle.pipe_time.proofs.Bounds.{times_grow_little, slots_grow_little}
use Rattle.pipe_time.proofs.laws.growth.Goals as goal

pub returns-clause-times : goal.returns-clause-times
returns-clause-times c = times_grow_little

pub returns-clause-slots : goal.returns-clause-slots
returns-clause-slots c = slots_grow_little
