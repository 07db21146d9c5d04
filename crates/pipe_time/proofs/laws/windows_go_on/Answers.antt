use Rattle.pipe_time.proofs.GoingOn.{windows_go_on, windows_lead_on, completion_goes_on}
use Rattle.pipe_time.proofs.laws.windows_go_on.Goals as goal

pub returns-clause-times : goal.returns-clause-times
returns-clause-times c = windows_go_on

pub returns-clause-slots : goal.returns-clause-slots
returns-clause-slots c = windows_lead_on

pub returns-clause-completion : goal.returns-clause-completion
returns-clause-completion c = completion_goes_on
