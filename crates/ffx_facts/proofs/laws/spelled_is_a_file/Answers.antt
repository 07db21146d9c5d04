use Rattle.ffx_facts.proofs.Spelled.{spelled_is_file}
use Rattle.ffx_facts.proofs.laws.spelled_is_a_file.Goals as goal

pub returns : goal.returns
returns c = spelled_is_file
