use Rattle.run_laws.proofs.ChainLemmas.{frames_tell_last, looks_have_called, runs_have_called}
use Rattle.run_laws.proofs.chains.frames_tell_calls.Goals as goal

pub returns-clause-last : goal.returns-clause-last
returns-clause-last c = frames_tell_last

pub returns-clause-runs : goal.returns-clause-runs
returns-clause-runs c = runs_have_called

pub returns-clause-looks : goal.returns-clause-looks
returns-clause-looks c = looks_have_called
