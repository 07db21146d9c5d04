use Rattle.cache_class.proofs.FlowLemmas.{unfolding_flow}
use Rattle.cache_class.proofs.laws.unfoldings_flow.Goals as goal

pub returns : goal.returns
returns c = unfolding_flow
