use Rattle.std.proofs.Common.{◌∙◌, arith}
use Rattle.arm_code.proofs.Candidates.{supervisor}
use Rattle.arm_code.proofs.decoder.read.Goals as goal

pub returns-in_default : goal.returns-in_default
returns-in_default c = c.read_svc.ensures ∙ supervisor c.args.word (omega arith)
