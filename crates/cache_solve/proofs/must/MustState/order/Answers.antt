use Rattle.cache_solve.proofs.Orders.{must_same, must_joins, must_stays, must_keeps}
use Rattle.cache_solve.proofs.must.MustState.order.Goals as goal

pub returns-clause-same : goal.returns-clause-same
returns-clause-same c = must_same

pub returns-clause-joins : goal.returns-clause-joins
returns-clause-joins c = must_joins

pub returns-clause-stays : goal.returns-clause-stays
returns-clause-stays c = must_stays

pub returns-clause-keeps : goal.returns-clause-keeps
returns-clause-keeps c = must_keeps
