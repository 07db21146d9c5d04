use Rattle.pipe_time.proofs.Rebased.{rebased_plus_cost_covers, base_is_monotone, cost_is_monotone, cover_survives}
use Rattle.pipe_time.proofs.laws.covering_survives_a_rebase.Goals as goal

pub returns-clause-slots : goal.returns-clause-slots
returns-clause-slots c = rebased_plus_cost_covers

pub returns-clause-base : goal.returns-clause-base
returns-clause-base c = base_is_monotone

pub returns-clause-cost : goal.returns-clause-cost
returns-clause-cost c = cost_is_monotone

pub returns-clause-covers : goal.returns-clause-covers
returns-clause-covers c = cover_survives
