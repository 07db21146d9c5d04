use Rattle.std.proofs.Common.{ap, arith}
use Rattle.flow_graph.specs.declared.program.LoopInfo.{LoopInfo}
use Rattle.run_machine.proofs.Frames.{from_on}
use Rattle.run_machine.proofs.frame.below_heads.Goals as goal

pub returns : goal.returns
returns c = λ j d le lt.
    let u = from_on c.args.loops.now c.args.i c.index-loops-i.result c.requires.ascending c.index-loops-i.is j d le lt in
    let e = ap (λ (l : LoopInfo). l.head) c.index-loops-i.is in
    omega arith
