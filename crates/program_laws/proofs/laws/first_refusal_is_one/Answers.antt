use Rattle.program_laws.proofs.OneFirst.{one_first}
use Rattle.program_laws.proofs.laws.first_refusal_is_one.Goals as goal

pub returns : goal.returns
returns c = one_first
