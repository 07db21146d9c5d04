use Rattle.std.proofs.Common.{[], ◌∷◌, ◌≡◌}
use Rattle.wcet_front.specs.Files.{unread, replied}
use Rattle.wcet_front.specs.FileLaws.{read_both, unread_among, cut_among, unread_behind, cut_behind, cut_after, unread_is_due, reply_is_due}
use Rattle.wcet_front.specs.StageLaws.{handed_on, starved_on, starves_anyway}
use Rattle.wcet_cli.specs.Commands.{run_words}
use Rattle.wcet_cli.specs.RunCommand.{RunReplies}
use Rattle.wcet_cli.proofs.FaultFree.{run_free}
use Rattle.wcet_cli.proofs.commands.run.run.Goals as goal

pub returns-in_err-texts-clause-cause : goal.returns-in_err-texts-clause-cause
returns-in_err-texts-clause-cause g c =
    let w = run_words c.args.run.now in
    handed_on _ _ _ _ _ c.from_residual.ensures (λ said h. unread (unread_among _ (w.image ∷ w.facts ∷ w.machine ∷ []) (w.start ∷ []) said h)) c.in_err-texts.ensures.outcome

pub returns-in_err-texts-clause-starved : goal.returns-in_err-texts-clause-starved
returns-in_err-texts-clause-starved g c =
    let w = run_words c.args.run.now in
    starved_on _ _ _ _ c.from_residual.ensures (λ h. cut_among _ (w.image ∷ w.facts ∷ w.machine ∷ []) (w.start ∷ []) h) c.in_err-texts.ensures.starved

pub returns-in_err-texts-clause-due : goal.returns-in_err-texts-clause-due
returns-in_err-texts-clause-due g c contents due told cause fine =
    let w = run_words c.args.run.now in
    handed_on _ _ _ _ _ c.from_residual.ensures
    (λ said h free. unread_is_due contents _ _ _ _ (RunReplies w) said due told (unread_among _ (w.image ∷ w.facts ∷ w.machine ∷ []) (w.start ∷ []) said h) cause free fine)
    c.in_err-texts.ensures.outcome

pub returns-in_err-start-clause-cause : goal.returns-in_err-start-clause-cause
returns-in_err-start-clause-cause g c =
    let w = run_words c.args.run.now in
    let read = c.in_ok-texts.ensures in
    handed_on _ _ _ _ _ c.from_residual-in_err-start.ensures
    (λ said h. unread (unread_behind _ _ _ _ _ read.holds (w.image ∷ w.facts ∷ w.machine ∷ []) (w.start ∷ []) _ said read.read_faults read.outcome h))
    c.in_err-start.ensures.outcome

pub returns-in_err-start-clause-starved : goal.returns-in_err-start-clause-starved
returns-in_err-start-clause-starved g c =
    let w = run_words c.args.run.now in
    let read = c.in_ok-texts.ensures in
    starved_on _ _ _ _ c.from_residual-in_err-start.ensures
    (λ h. cut_behind _ _ _ _ _ read.holds (w.image ∷ w.facts ∷ w.machine ∷ []) (w.start ∷ []) _ read.outcome h) c.in_err-start.ensures.starved

pub returns-in_err-start-clause-due : goal.returns-in_err-start-clause-due
returns-in_err-start-clause-due g c contents due told cause fine =
    let w = run_words c.args.run.now in
    let read = c.in_ok-texts.ensures in
    handed_on _ _ _ _ _ c.from_residual-in_err-start.ensures
    (λ said h free. unread_is_due contents _ _ _ _ (RunReplies w) said due told
    (unread_behind _ _ _ _ _ read.holds (w.image ∷ w.facts ∷ w.machine ∷ []) (w.start ∷ []) _ said read.read_faults read.outcome h) cause free fine)
    c.in_err-start.ensures.outcome

pub returns-in_err-report-clause-cause : goal.returns-in_err-report-clause-cause
returns-in_err-report-clause-cause g c =
    let w = run_words c.args.run.now in
    let read = c.in_ok-texts.ensures in
    let all = read_both _ _ _ _ _ read.holds (w.image ∷ w.facts ∷ w.machine ∷ []) (w.start ∷ []) _ _ read.outcome c.in_ok-start.ensures.outcome in
    handed_on _ _ _ _ _ c.from_residual-in_err-report.ensures (λ said h. replied _ all h) c.in_err-report.ensures.cause

pub returns-in_err-report-clause-starved : goal.returns-in_err-report-clause-starved
returns-in_err-report-clause-starved g c =
    let w = run_words c.args.run.now in
    let read = c.in_ok-texts.ensures in
    let all = read_both _ _ _ _ _ read.holds (w.image ∷ w.facts ∷ w.machine ∷ []) (w.start ∷ []) _ _ read.outcome c.in_ok-start.ensures.outcome in
    let cut = cut_after _ _ _ all in
    starved_on _ _ _ _ c.from_residual-in_err-report.ensures (λ h. h) (starves_anyway _ _ cut)

pub returns-in_err-report-clause-due : goal.returns-in_err-report-clause-due
returns-in_err-report-clause-due g c contents due told cause fine =
    let w = run_words c.args.run.now in
    let read = c.in_ok-texts.ensures in
    let all = read_both _ _ _ _ _ read.holds (w.image ∷ w.facts ∷ w.machine ∷ []) (w.start ∷ []) _ _ read.outcome c.in_ok-start.ensures.outcome in
    let is = reply_is_due contents _ _ _ _ _ (RunReplies w) due told all cause fine in
    handed_on _ (λ r. r ≡ due) _ _ _ c.from_residual-in_err-report.ensures (λ said same free. same) (c.in_err-report.ensures.due due is)

pub returns-in_err-report-clause-sound : goal.returns-in_err-report-clause-sound
returns-in_err-report-clause-sound g c reliable =
    handed_on _ _ _ _ _ c.from_residual-in_err-report.ensures (λ said h. run_free (run_words c.args.run.now) c.in_ok-texts.texts c.in_ok-start.start said h) c.in_err-report.ensures.cause

pub returns-clause-cause : goal.returns-clause-cause
returns-clause-cause g c =
    let w = run_words c.args.run.now in
    let read = c.in_ok-texts.ensures in
    let all = read_both _ _ _ _ _ read.holds (w.image ∷ w.facts ∷ w.machine ∷ []) (w.start ∷ []) _ _ read.outcome c.in_ok-start.ensures.outcome in
    replied _ all c.in_ok-report.ensures.cause

pub returns-clause-due : goal.returns-clause-due
returns-clause-due g c contents due told cause fine free =
    let w = run_words c.args.run.now in
    let read = c.in_ok-texts.ensures in
    let all = read_both _ _ _ _ _ read.holds (w.image ∷ w.facts ∷ w.machine ∷ []) (w.start ∷ []) _ _ read.outcome c.in_ok-start.ensures.outcome in
    c.in_ok-report.ensures.due due (reply_is_due contents _ _ _ _ _ (RunReplies w) due told all cause fine)
