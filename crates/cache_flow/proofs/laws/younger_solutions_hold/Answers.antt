use Rattle.cache_flow.proofs.Runs.{younger_solutions}
use Rattle.cache_flow.proofs.laws.younger_solutions_hold.Goals as goal

pub returns : goal.returns
returns c = younger_solutions c.younger_access_keeps_order.ensures
