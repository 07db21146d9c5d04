use Rattle.cache_solve.proofs.Orders.{younger_same, younger_joins, younger_stays, younger_keeps}
use Rattle.cache_solve.proofs.younger.YoungerState.order.Goals as goal

pub returns-clause-same : goal.returns-clause-same
returns-clause-same c = younger_same

pub returns-clause-joins : goal.returns-clause-joins
returns-clause-joins c = younger_joins

pub returns-clause-stays : goal.returns-clause-stays
returns-clause-stays c = younger_stays

pub returns-clause-keeps : goal.returns-clause-keeps
returns-clause-keeps c = younger_keeps
