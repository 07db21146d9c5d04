use Rattle.std.proofs.Common.{[], ◌∷◌}
use Rattle.wcet_front.specs.Files.{unread, replied}
use Rattle.wcet_front.specs.FileLaws.{read_both, unread_among, cut_among, unread_behind, cut_behind, cut_after, unread_is_due, reply_is_due}
use Rattle.wcet_front.specs.StageLaws.{handed_on, starved_on}
use Rattle.wcet_cli.specs.Commands.{check_words}
use Rattle.wcet_cli.specs.CheckCommand.{CheckReplies}
use Rattle.wcet_cli.proofs.Answering.{answers_for, starves_always}
use Rattle.wcet_cli.proofs.FaultFree.{check_free}
use Rattle.wcet_cli.proofs.commands.check.check.Goals as goal

pub returns-in_err-texts-clause-cause : goal.returns-in_err-texts-clause-cause
returns-in_err-texts-clause-cause g c =
    let w = check_words c.args.names.now in
    handed_on _ _ _ _ _ c.from_residual.ensures (λ said h. unread (unread_among _ (w.image ∷ w.facts ∷ w.machine ∷ []) (w.certificate ∷ []) said h)) c.in_err-texts.ensures.outcome

pub returns-in_err-texts-clause-starved : goal.returns-in_err-texts-clause-starved
returns-in_err-texts-clause-starved g c =
    let w = check_words c.args.names.now in
    starved_on _ _ _ _ c.from_residual.ensures (λ h. cut_among _ (w.image ∷ w.facts ∷ w.machine ∷ []) (w.certificate ∷ []) h) c.in_err-texts.ensures.starved

pub returns-in_err-texts-clause-due : goal.returns-in_err-texts-clause-due
returns-in_err-texts-clause-due g c contents due told cause fine =
    let w = check_words c.args.names.now in
    handed_on _ _ _ _ _ c.from_residual.ensures
    (λ said h free. unread_is_due contents _ _ _ _ (CheckReplies w) said due told (unread_among _ (w.image ∷ w.facts ∷ w.machine ∷ []) (w.certificate ∷ []) said h) cause free fine)
    c.in_err-texts.ensures.outcome

pub returns-in_err-certificate-clause-cause : goal.returns-in_err-certificate-clause-cause
returns-in_err-certificate-clause-cause g c =
    let w = check_words c.args.names.now in
    let read = c.in_ok-texts.ensures in
    handed_on _ _ _ _ _ c.from_residual-in_err-certificate.ensures
    (λ said h. unread (unread_behind _ _ _ _ _ read.holds (w.image ∷ w.facts ∷ w.machine ∷ []) (w.certificate ∷ []) _ said read.read_faults read.outcome h))
    c.in_err-certificate.ensures.outcome

pub returns-in_err-certificate-clause-starved : goal.returns-in_err-certificate-clause-starved
returns-in_err-certificate-clause-starved g c =
    let w = check_words c.args.names.now in
    let read = c.in_ok-texts.ensures in
    starved_on _ _ _ _ c.from_residual-in_err-certificate.ensures
    (λ h. cut_behind _ _ _ _ _ read.holds (w.image ∷ w.facts ∷ w.machine ∷ []) (w.certificate ∷ []) _ read.outcome h) c.in_err-certificate.ensures.starved

pub returns-in_err-certificate-clause-due : goal.returns-in_err-certificate-clause-due
returns-in_err-certificate-clause-due g c contents due told cause fine =
    let w = check_words c.args.names.now in
    let read = c.in_ok-texts.ensures in
    handed_on _ _ _ _ _ c.from_residual-in_err-certificate.ensures
    (λ said h free. unread_is_due contents _ _ _ _ (CheckReplies w) said due told
    (unread_behind _ _ _ _ _ read.holds (w.image ∷ w.facts ∷ w.machine ∷ []) (w.certificate ∷ []) _ said read.read_faults read.outcome h) cause free fine)
    c.in_err-certificate.ensures.outcome

pub returns-clause-cause : goal.returns-clause-cause
returns-clause-cause g c =
    let w = check_words c.args.names.now in
    let read = c.in_ok-texts.ensures in
    let all = read_both _ _ _ _ _ read.holds (w.image ∷ w.facts ∷ w.machine ∷ []) (w.certificate ∷ []) _ _ read.outcome c.in_ok-certificate.ensures.outcome in
    answers_for _ _ c.verdict_in.result (λ said h. replied _ all h) c.verdict_in.ensures.cause

pub returns-clause-starved : goal.returns-clause-starved
returns-clause-starved g c =
    let w = check_words c.args.names.now in
    let read = c.in_ok-texts.ensures in
    let all = read_both _ _ _ _ _ read.holds (w.image ∷ w.facts ∷ w.machine ∷ []) (w.certificate ∷ []) _ _ read.outcome c.in_ok-certificate.ensures.outcome in
    starves_always _ c.verdict_in.result (cut_after _ _ _ all)

pub returns-clause-due : goal.returns-clause-due
returns-clause-due g c contents due told cause fine =
    let w = check_words c.args.names.now in
    let read = c.in_ok-texts.ensures in
    let all = read_both _ _ _ _ _ read.holds (w.image ∷ w.facts ∷ w.machine ∷ []) (w.certificate ∷ []) _ _ read.outcome c.in_ok-certificate.ensures.outcome in
    let is = reply_is_due contents _ _ _ _ _ (CheckReplies w) due told all cause fine in
    answers_for _ _ c.verdict_in.result (λ said same free. same) (c.verdict_in.ensures.due due is)

pub returns-clause-sound : goal.returns-clause-sound
returns-clause-sound g c reliable =
    answers_for _ _ c.verdict_in.result
    (λ said h. check_free (check_words c.args.names.now) c.in_ok-texts.texts c.in_ok-certificate.certificate said h) c.verdict_in.ensures.cause
