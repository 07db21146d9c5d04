use Rattle.program_laws.proofs.SomeDue.{some_is_due}
use Rattle.program_laws.proofs.laws.images_are_programs_or_refused.Goals as goal

pub returns : goal.returns
returns c = some_is_due
