use Rattle.start_laws.proofs.OneDue.{not_both, one_refusal, one_start}
use Rattle.start_laws.proofs.laws.start_or_refusal_is_one.Goals as goal

pub returns-clause-one_start : goal.returns-clause-one_start
returns-clause-one_start c = one_start c.spellings_are_one.ensures.decimal c.spellings_are_one.ensures.word c.spellings_are_one.ensures.byte

pub returns-clause-one_refusal : goal.returns-clause-one_refusal
returns-clause-one_refusal c = one_refusal c.spellings_are_one.ensures.decimal c.spellings_are_one.ensures.word c.spellings_are_one.ensures.byte

pub returns-clause-not_both : goal.returns-clause-not_both
returns-clause-not_both c = not_both c.spellings_are_one.ensures.decimal c.spellings_are_one.ensures.word c.spellings_are_one.ensures.byte
