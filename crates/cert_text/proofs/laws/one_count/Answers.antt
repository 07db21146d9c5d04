use Rattle.cert_text.proofs.PoolLemmas.{one_number}
use Rattle.cert_text.proofs.laws.one_count.Goals as goal

pub returns : goal.returns
returns c = λ d m n p q. one_number d.families m n p q
