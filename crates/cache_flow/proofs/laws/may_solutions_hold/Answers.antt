use Rattle.cache_flow.proofs.Runs.{may_solutions}
use Rattle.cache_flow.proofs.laws.may_solutions_hold.Goals as goal

pub returns : goal.returns
returns c = may_solutions c.access_keeps_cache.ensures c.may_access_covers.ensures
