use Rattle.run_laws.proofs.ImageLemmas.{runs_stay_in_range}
use Rattle.run_laws.proofs.KeptLemmas.{steps_stay_in_range}
use Rattle.run_laws.proofs.code.words_stay_in_range.Goals as goal

pub returns-clause-steps : goal.returns-clause-steps
returns-clause-steps c = steps_stay_in_range

pub returns-clause-runs : goal.returns-clause-runs
returns-clause-runs c = runs_stay_in_range
