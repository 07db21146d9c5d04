use Rattle.run_laws.proofs.ChainLemmas.{moves_change_calls}
use Rattle.run_laws.proofs.chains.moves_change_calls.Goals as goal

pub returns : goal.returns
returns c = moves_change_calls
