use Rattle.std.proofs.Common.{◌∙◌}
use Rattle.arm_step.proofs.Touched.{slow_met}
use Rattle.arm_step.proofs.access.is_slow_access.Goals as goal

pub returns : goal.returns
returns c = c.meets_slow_region.ensures ∙ slow_met c.args.machine.now c.args.addr c.args.count
