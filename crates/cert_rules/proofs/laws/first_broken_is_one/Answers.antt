use Rattle.cert_rules.proofs.OneLemmas.{one}
use Rattle.cert_rules.proofs.laws.first_broken_is_one.Goals as goal

pub returns : goal.returns
returns c = one
