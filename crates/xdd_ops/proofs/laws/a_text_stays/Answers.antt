use Rattle.xdd_ops.proofs.AnswerLemmas.{text_kept}
use Rattle.xdd_ops.proofs.laws.a_text_stays.Goals as goal

pub returns : goal.returns
returns c = text_kept
