use Rattle.xdd_ops.proofs.TimesLemmas.{text_times}
use Rattle.xdd_ops.proofs.laws.a_text_tells_times.Goals as goal

pub returns : goal.returns
returns c = text_times
