use Rattle.machine_desc.proofs.Due.{due}
use Rattle.machine_desc.proofs.Unique.{no_cause, one_first_cause, one_machine}
use Rattle.machine_desc.proofs.laws.one_answer_is_due.Goals as goal

pub returns-clause-some : goal.returns-clause-some
returns-clause-some c = due

pub returns-clause-one_machine : goal.returns-clause-one_machine
returns-clause-one_machine c = one_machine

pub returns-clause-one_cause : goal.returns-clause-one_cause
returns-clause-one_cause c = one_first_cause

pub returns-clause-not_both : goal.returns-clause-not_both
returns-clause-not_both c = λ b machine e h x. no_cause b machine e h x.stands
