use Rattle.std.proofs.Common.{◌∙◌}
use Rattle.arm_step.proofs.Touched.{code_met}
use Rattle.arm_step.proofs.access.meets_code.Goals as goal

pub returns : goal.returns
returns c = c.meets_code_segment.ensures ∙ code_met c.args.image.now c.args.addr c.args.count
