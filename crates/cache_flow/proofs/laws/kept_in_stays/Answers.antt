use Rattle.cache_flow.proofs.Runs.{kept_in_stays}
use Rattle.cache_flow.proofs.laws.kept_in_stays.Goals as goal

pub returns : goal.returns
returns c = kept_in_stays c.covering_keeps.ensures c.younger_access_keeps_order.ensures c.kept_is_held.ensures
