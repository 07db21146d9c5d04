use Rattle.path_laws.proofs.FinishLemmas.{finishes_are_natural}
use Rattle.path_laws.proofs.finishes.finishes_are_natural.Goals as goal

pub returns : goal.returns
returns c = finishes_are_natural
