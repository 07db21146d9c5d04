use Rattle.node_exits.proofs.StayLemmas.{leaving_stays, work_stays}
use Rattle.node_exits.proofs.laws.exits_stay.Goals as goal

pub returns-clause-leaving : goal.returns-clause-leaving
returns-clause-leaving c = leaving_stays c.kept_answers_stay.ensures.leavings

pub returns-clause-work : goal.returns-clause-work
returns-clause-work c = work_stays c.kept_answers_stay.ensures.right
