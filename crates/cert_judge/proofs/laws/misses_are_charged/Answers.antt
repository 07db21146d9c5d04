use Rattle.cert_judge.proofs.OfferLemmas.{misses_are_charged}
use Rattle.cert_judge.proofs.laws.misses_are_charged.Goals as goal

pub returns : goal.returns
returns c = misses_are_charged
