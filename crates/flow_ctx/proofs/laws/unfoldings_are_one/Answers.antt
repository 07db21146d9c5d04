use Rattle.flow_ctx.proofs.UniqueLemmas.{unfolding_is_one}
use Rattle.flow_ctx.proofs.laws.unfoldings_are_one.Goals as goal

pub returns : goal.returns
returns c = unfolding_is_one
