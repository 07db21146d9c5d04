use Rattle.cert_laws.proofs.OneDue.{not_both, one_certificate, one_refusal}
use Rattle.cert_laws.proofs.laws.certificate_or_refusal_is_one.Goals as goal

pub returns-clause-one_certificate : goal.returns-clause-one_certificate
returns-clause-one_certificate c = one_certificate c.spellings_are_one.ensures.decimal c.spellings_are_one.ensures.word

pub returns-clause-one_refusal : goal.returns-clause-one_refusal
returns-clause-one_refusal c = one_refusal c.spellings_are_one.ensures.decimal c.spellings_are_one.ensures.word c.no_lines_within.ensures

pub returns-clause-not_both : goal.returns-clause-not_both
returns-clause-not_both c = not_both c.spellings_are_one.ensures.decimal c.spellings_are_one.ensures.word c.no_lines_within.ensures
