use Rattle.run_laws.proofs.RunLemmas.{steps_give_runs, runs_are_steps, prefixes_obey}
use Rattle.run_laws.proofs.obeying.steps_of_runs.Goals as goal

pub returns-clause-sound : goal.returns-clause-sound
returns-clause-sound c = steps_give_runs

pub returns-clause-whole : goal.returns-clause-whole
returns-clause-whole c = runs_are_steps

pub returns-clause-prefixes : goal.returns-clause-prefixes
returns-clause-prefixes c = prefixes_obey
