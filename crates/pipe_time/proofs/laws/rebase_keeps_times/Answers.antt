use Rattle.pipe_time.proofs.Rebased.{rebased_is_no_faster, rebased_completes_no_earlier, rebased_is_exact, rebased_completion_is_exact}
use Rattle.pipe_time.proofs.laws.rebase_keeps_times.Goals as goal

pub returns-clause-times : goal.returns-clause-times
returns-clause-times c = rebased_is_no_faster

pub returns-clause-completion : goal.returns-clause-completion
returns-clause-completion c = rebased_completes_no_earlier

pub returns-clause-exact : goal.returns-clause-exact
returns-clause-exact c = rebased_is_exact

pub returns-clause-exact_completion : goal.returns-clause-exact_completion
returns-clause-exact_completion c = rebased_completion_is_exact
