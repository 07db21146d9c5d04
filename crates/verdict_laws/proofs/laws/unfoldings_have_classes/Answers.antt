use Rattle.verdict_laws.proofs.Tables.{has_classes}
use Rattle.verdict_laws.proofs.laws.unfoldings_have_classes.Goals as goal

pub returns : goal.returns
returns c = has_classes
