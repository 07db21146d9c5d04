use Rattle.arm_code.proofs.Ways.{target_is}
use Rattle.arm_code.proofs.flows.offsets_give_targets.Goals as goal

pub returns : goal.returns
returns c = target_is
