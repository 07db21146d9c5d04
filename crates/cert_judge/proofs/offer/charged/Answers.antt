use Rattle.cert_judge.proofs.OfferLemmas.{charged_is}
use Rattle.cert_judge.proofs.offer.charged.Goals as goal

pub returns-clause-charged : goal.returns-clause-charged
returns-clause-charged c =
    charged_is c.charged_on.new.table c.args.classes.now c.args.charges.now c.charged_on.result c.requires.few c.charged_on.ensures.within c.charged_on.ensures.times
