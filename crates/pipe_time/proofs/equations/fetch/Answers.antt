use Rattle.std.proofs.Common.{◌^◌, ◌≤◌, arith}
use Rattle.pipe_time.proofs.Bounds.{base_within}
use Rattle.pipe_time.proofs.equations.fetch.Goals as goal

pub returns-clause-small : goal.returns-clause-small
returns-clause-small c = rw c.base.ensures (base_within c.args.m.now (2 ^ 62) c.args.slots.now c.requires.machine c.requires.slots)
