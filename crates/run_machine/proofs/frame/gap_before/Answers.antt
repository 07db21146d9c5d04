use Rattle.run_machine.proofs.Frames.{gap_of}
use Rattle.run_machine.proofs.frame.gap_before.Goals as goal

pub returns : goal.returns
returns c =
    gap_of c.args.loops.now c.args.i c.above_heads.result c.below_heads.result c.above_heads.ensures c.below_heads.ensures
