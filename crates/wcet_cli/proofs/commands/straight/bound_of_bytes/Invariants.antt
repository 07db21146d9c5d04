use Rattle.std.proofs.Common.{length}
use Rattle.wcet_cli.proofs.SoFar.{SoFar}
use Rattle.wcet_cli.proofs.commands.straight.bound_of_bytes.Given as goal

abbrev pub invariant-loop-word : goal.invariant-loop-word
invariant-loop-word l = SoFar l.machine l.bytes l.rest l.addr l.pipeline.slots

abbrev pub decreases-loop-word : goal.decreases-loop-word
decreases-loop-word l = length l.rest
