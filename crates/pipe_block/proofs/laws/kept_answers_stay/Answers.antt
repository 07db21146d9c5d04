use Rattle.pipe_block.proofs.EndLemmas.{finish_stays, leaving_stays, no_end_is_right, right_ends_stay}
use Rattle.pipe_block.proofs.Staying.{times_stay, interning_keeps}
use Rattle.pipe_block.proofs.laws.kept_answers_stay.Goals as goal

pub returns-clause-times : goal.returns-clause-times
returns-clause-times c = times_stay

pub returns-clause-finishes : goal.returns-clause-finishes
returns-clause-finishes c = finish_stays

pub returns-clause-leavings : goal.returns-clause-leavings
returns-clause-leavings c = leaving_stays

pub returns-clause-right : goal.returns-clause-right
returns-clause-right c = right_ends_stay

pub returns-clause-pool : goal.returns-clause-pool
returns-clause-pool c = interning_keeps

pub returns-clause-none : goal.returns-clause-none
returns-clause-none c = no_end_is_right
