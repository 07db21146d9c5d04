use Rattle.start_laws.proofs.SomeDue.{some_is_due}
use Rattle.start_laws.proofs.laws.starts_are_read_or_refused.Goals as goal

pub returns : goal.returns
returns c = some_is_due
