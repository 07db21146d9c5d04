use Rattle.std.proofs.Common.{refl, ap, subst}
use Rattle.cert_check.specs.Answers.{IsRefusal}
use Rattle.wcet_front.specs.declared.reply.Reply.TheVariants as reply
use Rattle.wcet_cli.specs.CheckCommand.{accepts, rejects}
use Rattle.wcet_cli.proofs.CheckDue.{one_verdict}
use Rattle.wcet_cli.proofs.commands.check.verdict_on.Goals as goal

pub returns-in-Ok-clause-cause : goal.returns-in-Ok-clause-cause
returns-in-Ok-clause-cause c = accepts c.in-Ok.ensures.accepted (ap reply.Bound c.in-Ok.ensures.bound)

pub returns-in-Ok-clause-due : goal.returns-in-Ok-clause-due
returns-in-Ok-clause-due c said is =
    one_verdict c.classes_are_one.ensures c.valid_breaks_none.ensures c.first_broken_is_one.ensures _ _ _ _ said (returns-in-Ok-clause-cause c) is

pub returns-in-Err-Rejected-clause-cause : goal.returns-in-Err-Rejected-clause-cause
returns-in-Err-Rejected-clause-cause c =
    let at = c.in-Err-Rejected in
    let rejected = subst (λ e. IsRefusal c.args.unfolded.now c.args.machine.now c.args.certificate.now e) at.field-0-is at.ensures.refused in
    rejects at.rule at.node at.vector rejected refl

pub returns-in-Err-Rejected-clause-due : goal.returns-in-Err-Rejected-clause-due
returns-in-Err-Rejected-clause-due c said is =
    one_verdict c.classes_are_one.ensures c.valid_breaks_none.ensures c.first_broken_is_one.ensures _ _ _ _ said (returns-in-Err-Rejected-clause-cause c) is
