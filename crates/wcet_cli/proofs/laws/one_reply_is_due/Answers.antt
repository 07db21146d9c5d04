use Rattle.wcet_cli.proofs.AlwaysDue.{never_none}
use Rattle.wcet_cli.proofs.OnlyDue.{one_is_due}
use Rattle.wcet_cli.proofs.SomeDue.{some_is_due}
use Rattle.wcet_cli.proofs.laws.one_reply_is_due.Goals as goal

pub returns-clause-never_none : goal.returns-clause-never_none
returns-clause-never_none c = never_none (record {
  images = c.one_answer_is_due.ensures.some;
  loaded = c.images_are_loaded.ensures;
  facts = c.one_answer_is_due-2.ensures.some;
  machines = c.one_answer_is_due-3.ensures.some;
  starts = c.starts_are_read_or_refused.ensures;
  programs = c.images_are_programs_or_refused.ensures;
  certificates = c.certificates_are_read_or_refused.ensures;
  texts = c.certificates_have_texts.ensures;
  writable = c.what_is_read_is_writable.ensures;
  tells = c.written_tells.ensures;
  unfoldings = c.programs_are_unfolded_or_too_large.ensures;
  classes = c.unfoldings_have_classes.ensures;
  verdicts = c.certificates_are_valid_or_broken.ensures;
})

pub returns-clause-some : goal.returns-clause-some
returns-clause-some c = some_is_due

pub returns-clause-no_other : goal.returns-clause-no_other
returns-clause-no_other c = one_is_due (record {
  image_cause = c.one_answer_is_due.ensures.one_cause;
  image_not_both = c.one_answer_is_due.ensures.not_both;
  facts = c.one_answer_is_due-2.ensures.one_set;
  facts_cause = c.one_answer_is_due-2.ensures.one_cause;
  facts_not_both = c.one_answer_is_due-2.ensures.not_both;
  machine = c.one_answer_is_due-3.ensures.one_machine;
  machine_cause = c.one_answer_is_due-3.ensures.one_cause;
  machine_not_both = c.one_answer_is_due-3.ensures.not_both;
  start = c.start_or_refusal_is_one.ensures.one_start;
  start_refusal = c.start_or_refusal_is_one.ensures.one_refusal;
  start_not_both = c.start_or_refusal_is_one.ensures.not_both;
  program = c.program_is_one.ensures;
  first_refusal = c.first_refusal_is_one.ensures;
  certificate = c.certificate_or_refusal_is_one.ensures.one_certificate;
  certificate_refusal = c.certificate_or_refusal_is_one.ensures.one_refusal;
  certificate_not_both = c.certificate_or_refusal_is_one.ensures.not_both;
  count = c.one_count.ensures;
  unfolded = c.unfoldings_are_one.ensures;
  classes = c.classes_are_one.ensures;
  valid = c.valid_breaks_none.ensures;
  first_broken = c.first_broken_is_one.ensures;
})
