use Rattle.elf_image.proofs.Due.{due}
use Rattle.elf_image.proofs.Unique.{one_first_cause, rank_bound}
use Rattle.elf_image.proofs.laws.one_answer_is_due.Goals as goal

pub returns-clause-some : goal.returns-clause-some
returns-clause-some c = due

pub returns-clause-one_cause : goal.returns-clause-one_cause
returns-clause-one_cause c = one_first_cause

pub returns-clause-not_both : goal.returns-clause-not_both
returns-clause-not_both c = λ b e p h. p.none e (rank_bound e) h.stands
