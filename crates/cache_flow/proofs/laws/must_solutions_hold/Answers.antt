use Rattle.cache_flow.proofs.Runs.{must_solutions}
use Rattle.cache_flow.proofs.laws.must_solutions_hold.Goals as goal

pub returns : goal.returns
returns c = must_solutions c.access_keeps_cache.ensures c.must_access_covers.ensures
