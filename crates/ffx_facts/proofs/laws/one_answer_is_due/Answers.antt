use Rattle.ffx_facts.proofs.Due.{due}
use Rattle.ffx_facts.proofs.Exact.{no_cause, one_cause}
use Rattle.ffx_facts.proofs.FactsOne.{facts_one}
use Rattle.ffx_facts.proofs.laws.one_answer_is_due.Goals as goal

pub returns-clause-some : goal.returns-clause-some
returns-clause-some c = due

pub returns-clause-one_set : goal.returns-clause-one_set
returns-clause-one_set c = facts_one

pub returns-clause-one_cause : goal.returns-clause-one_cause
returns-clause-one_cause c = one_cause

pub returns-clause-not_both : goal.returns-clause-not_both
returns-clause-not_both c = λ b symbols facts cause f h. no_cause b symbols f.all cause f.fine h
