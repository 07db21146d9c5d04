use Rattle.std.proofs.Common.{subst}
use Rattle.wcet_front.specs.Files.{unread, replied}
use Rattle.wcet_front.specs.FileLaws.{unread_is_due, reply_is_due}
use Rattle.wcet_front.specs.StageLaws.{handed_on, starved_on}
use Rattle.wcet_cli.specs.FlatCommand.{FlatReply, FlatReplies}
use Rattle.wcet_cli.proofs.Reading.{one_flat_reply}
use Rattle.wcet_cli.proofs.commands.flat.flat.Goals as goal

pub returns-in_err-bytes-clause-cause : goal.returns-in_err-bytes-clause-cause
returns-in_err-bytes-clause-cause g c = handed_on _ _ _ _ _ c.from_residual.ensures (λ said h. unread h) c.in_err-bytes.ensures.outcome

pub returns-in_err-bytes-clause-starved : goal.returns-in_err-bytes-clause-starved
returns-in_err-bytes-clause-starved g c = starved_on _ _ _ _ c.from_residual.ensures (λ h. h) c.in_err-bytes.ensures.starved

pub returns-in_err-bytes-clause-due : goal.returns-in_err-bytes-clause-due
returns-in_err-bytes-clause-due g c contents due told cause fine =
    handed_on _ _ _ _ _ c.from_residual.ensures
    (λ said h free. unread_is_due contents _ _ _ _ FlatReplies said due told h cause free fine) c.in_err-bytes.ensures.outcome

pub returns-clause-cause : goal.returns-clause-cause
returns-clause-cause g c =
    replied _ c.in_ok-bytes.ensures.outcome (subst (λ bytes. FlatReply bytes c.bound_reply.result) c.as_bytes.ensures c.bound_reply.ensures.cause)

pub returns-clause-due : goal.returns-clause-due
returns-clause-due g c contents due told cause fine free =
    let is = subst (λ bytes. FlatReply bytes c.bound_reply.result) c.as_bytes.ensures c.bound_reply.ensures.cause in
    one_flat_reply c.in_ok-bytes.bytes _ due is (reply_is_due contents _ _ _ _ _ FlatReplies due told c.in_ok-bytes.ensures.outcome cause fine)
