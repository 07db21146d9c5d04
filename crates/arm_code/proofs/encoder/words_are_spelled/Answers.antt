use Rattle.arm_code.proofs.Spelling.{spelled}
use Rattle.arm_code.proofs.encoder.words_are_spelled.Goals as goal

pub returns : goal.returns
returns c = spelled
