use Rattle.pipe_time.proofs.Delay.{delay_is_passed_on, delay_of_completion, delay_of_slots}
use Rattle.pipe_time.proofs.laws.delay_is_passed_on.Goals as goal

pub returns-clause-times : goal.returns-clause-times
returns-clause-times c = delay_is_passed_on

pub returns-clause-completion : goal.returns-clause-completion
returns-clause-completion c = delay_of_completion

pub returns-clause-slots : goal.returns-clause-slots
returns-clause-slots c = delay_of_slots
