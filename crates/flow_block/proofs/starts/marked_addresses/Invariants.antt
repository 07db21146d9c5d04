use Rattle.flow_block.proofs.Queued.{MarkedTo}
use Rattle.flow_block.proofs.starts.marked_addresses.Given as goal

abbrev pub invariant-loop-place : goal.invariant-loop-place
invariant-loop-place l = MarkedTo l.code.addresses.now l.marks l.list.items l.place
