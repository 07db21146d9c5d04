use Rattle.std.proofs.Common.{◌-◌, ap, arith}
use Rattle.flow_graph.specs.declared.program.LoopInfo.{LoopInfo}
use Rattle.run_machine.proofs.Frames.{up_to}
use Rattle.run_machine.proofs.frame.above_heads.Goals as goal

pub returns : goal.returns
returns c = λ j d lt.
    let u = up_to c.args.loops.now (c.args.i - 1) c.index-loops-i.result c.requires.ascending (omega arith) c.index-loops-i.is j d (omega arith) in
    let e = ap (λ (l : LoopInfo). l.head) c.index-loops-i.is in
    omega arith
