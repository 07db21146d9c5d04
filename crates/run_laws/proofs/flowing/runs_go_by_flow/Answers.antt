use Rattle.run_laws.proofs.GoingLemmas.{runs_go_by_flow}
use Rattle.run_laws.proofs.flowing.runs_go_by_flow.Goals as goal

pub returns : goal.returns
returns c = runs_go_by_flow
