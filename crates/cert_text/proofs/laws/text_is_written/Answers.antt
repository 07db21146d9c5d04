use Rattle.cert_text.proofs.SameLemmas.{text_is_written}
use Rattle.cert_text.proofs.laws.text_is_written.Goals as goal

pub returns : goal.returns
returns c = text_is_written
