use Rattle.run_laws.proofs.FlowLemmas.{steps_follow_flow}
use Rattle.run_laws.proofs.flowing.steps_follow_flow.Goals as goal

pub returns : goal.returns
returns c = steps_follow_flow
