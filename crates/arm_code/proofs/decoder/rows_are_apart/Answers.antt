use Rattle.arm_code.proofs.Apart.{apart}
use Rattle.arm_code.proofs.decoder.rows_are_apart.Goals as goal

pub returns : goal.returns
returns c = apart
