use Rattle.cert_laws.proofs.Pools.{has_text}
use Rattle.cert_laws.proofs.laws.certificates_have_texts.Goals as goal

pub returns : goal.returns
returns c = has_text
