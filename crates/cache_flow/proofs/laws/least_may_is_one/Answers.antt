use Rattle.cache_flow.proofs.Least.{may_is_one}
use Rattle.cache_flow.proofs.laws.least_may_is_one.Goals as goal

pub returns : goal.returns
returns c = may_is_one
