use Rattle.flow_laws.proofs.PastLemmas.{steps_go_past}
use Rattle.flow_laws.proofs.programs.steps_go_past.Goals as goal

pub returns : goal.returns
returns c = steps_go_past
