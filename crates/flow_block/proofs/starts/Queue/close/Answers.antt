use Rattle.std.proofs.Common.{arith}
use Rattle.flow_block.proofs.Queued.{closed}
use Rattle.flow_block.proofs.starts.Queue.close.Goals as goal

pub returns-then-at-len : goal.returns-then-at-len
returns-then-at-len g c = closed g.of _ _ _ _ _ _ c.requires.0 c.loop-at.invariant (omega (arith, c.len.ensures, c.loop-at.self.queue.ok.0))

pub returns : goal.returns
returns g c = closed g.of _ _ _ _ _ _ c.requires.0 c.loop-at.invariant (omega (arith, c.loop-at.self.queue.ok.0))
