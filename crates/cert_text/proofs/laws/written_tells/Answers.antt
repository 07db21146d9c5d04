use Rattle.cert_text.proofs.WriteLemmas.{written_tells}
use Rattle.cert_text.proofs.laws.written_tells.Goals as goal

pub returns : goal.returns
returns c = written_tells
