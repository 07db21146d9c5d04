use Rattle.pipe_time.proofs.Delay.{worse_is_no_faster, worse_completes_no_earlier, worse_stays_covering}
use Rattle.pipe_time.proofs.laws.worse_is_no_faster.Goals as goal

pub returns-clause-times : goal.returns-clause-times
returns-clause-times c = worse_is_no_faster

pub returns-clause-completion : goal.returns-clause-completion
returns-clause-completion c = worse_completes_no_earlier

pub returns-clause-slots : goal.returns-clause-slots
returns-clause-slots c = worse_stays_covering
