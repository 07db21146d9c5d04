use Rattle.cache_flow.proofs.Least.{younger_is_one}
use Rattle.cache_flow.proofs.laws.least_younger_is_one.Goals as goal

pub returns : goal.returns
returns c = younger_is_one
