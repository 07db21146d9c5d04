use Rattle.unfolding_laws.proofs.SomeDue.{some_is_due}
use Rattle.unfolding_laws.proofs.laws.programs_are_unfolded_or_too_large.Goals as goal

pub returns : goal.returns
returns c = some_is_due
