use Rattle.cache_flow.proofs.Least.{must_is_one}
use Rattle.cache_flow.proofs.laws.least_must_is_one.Goals as goal

pub returns : goal.returns
returns c = must_is_one
