use Rattle.flow_block.specs.Starts.{StartsTo}
use Rattle.flow_block.proofs.starts.Queue.close.Given as goal

abbrev pub ghost-step : goal.ghost-step
ghost-step g a = g.of

abbrev pub invariant-loop-at : goal.invariant-loop-at
invariant-loop-at g l = StartsTo g.of l.machine l.code.addresses.now l.self.marks.items l.self.queue.items l.at
