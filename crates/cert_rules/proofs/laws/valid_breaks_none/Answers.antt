use Rattle.cert_rules.proofs.OneLemmas.{breaks_none}
use Rattle.cert_rules.proofs.laws.valid_breaks_none.Goals as goal

pub returns : goal.returns
returns c = breaks_none
