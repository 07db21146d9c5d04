use Rattle.cache_solve.proofs.Orders.{may_same, may_joins, may_stays, may_keeps}
use Rattle.cache_solve.proofs.may.MayState.order.Goals as goal

pub returns-clause-same : goal.returns-clause-same
returns-clause-same c = may_same

pub returns-clause-joins : goal.returns-clause-joins
returns-clause-joins c = may_joins

pub returns-clause-stays : goal.returns-clause-stays
returns-clause-stays c = may_stays

pub returns-clause-keeps : goal.returns-clause-keeps
returns-clause-keeps c = may_keeps
