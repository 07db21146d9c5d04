use Rattle.std.proofs.Common.{◌∙◌, ap, refl, subst}
use Rattle.wcet_front.specs.declared.reply.Reply.TheVariants as reply
use Rattle.wcet_cli.specs.FlatCommand.{bound, leaves_code, unsupported}
use Rattle.wcet_cli.specs.Refusal.{HasFault}
use Rattle.wcet_cli.specs.Straight.{bound_of}
use Rattle.wcet_cli.proofs.commands.flat.bound_reply.Goals as goal

pub returns-in-Ok-clause-cause : goal.returns-in-Ok-clause-cause
returns-in-Ok-clause-cause c =
    let is = c.in-Ok.ensures.bound in
    bound is.0 is.1 (ap reply.Bound (is.2 ∙ ap (λ machine. bound_of machine is.0) c.m1.ensures.value))

pub returns-in-Err-LeavesCode-clause-cause : goal.returns-in-Err-LeavesCode-clause-cause
returns-in-Err-LeavesCode-clause-cause c =
    leaves_code _ (subst (HasFault c.args.bytes.now) c.in-Err-LeavesCode.field-0-is c.in-Err-LeavesCode.ensures.fault) refl

pub returns-clause-cause : goal.returns-clause-cause
returns-clause-cause c =
    unsupported _ _ (subst (HasFault c.args.bytes.now) c.in-Err-Unsupported.field-0-is c.in-Err-Unsupported.ensures.fault) refl
