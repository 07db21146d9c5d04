use Rattle.ffx_facts.proofs.Split.{file_is_spelled}
use Rattle.ffx_facts.proofs.laws.a_file_is_spelled.Goals as goal

pub returns : goal.returns
returns c = file_is_spelled
