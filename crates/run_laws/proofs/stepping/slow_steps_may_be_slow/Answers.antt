use Rattle.run_laws.proofs.SlowLemmas.{slow_steps_may_be_slow}
use Rattle.run_laws.proofs.stepping.slow_steps_may_be_slow.Goals as goal

pub returns : goal.returns
returns c = slow_steps_may_be_slow
