use Rattle.std.proofs.Common.{length}
use Rattle.wcet_front.proofs.Putting.{PutSoFar}
use Rattle.wcet_front.proofs.handing.put_all.Given as goal

abbrev pub invariant-loop-rest : goal.invariant-loop-rest
invariant-loop-rest g l =
    let sink = g.O.Sink in
    PutSoFar (sink.taken l.fn.out) (sink.taken l.out) (sink.faults l.fn.out) (sink.faults l.out) l.text l.rest
    × (sink.reliable l.fn.out → sink.reliable l.out)

abbrev pub decreases-loop-rest : goal.decreases-loop-rest
decreases-loop-rest g l = length l.rest
