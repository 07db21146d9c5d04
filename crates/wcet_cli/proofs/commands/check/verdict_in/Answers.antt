-- The first stage that refuses decides; what the stages before it gave is one.
use Rattle.std.proofs.Common.{◌≡◌}
use Rattle.wcet_front.specs.Stages.{refused, passed}
use Rattle.wcet_front.specs.StageLaws.{handed_on, stop_is_due}
use Rattle.wcet_cli.specs.Commands.{check_words}
use Rattle.wcet_cli.proofs.Answering.{answers_for}
use Rattle.wcet_cli.proofs.CheckDue.{at_certificate, at_entry, at_program, at_unfolding, at_verdict, unfolded_on}
use Rattle.wcet_cli.proofs.commands.check.verdict_in.Goals as goal

pub returns-in_err-inputs-clause-cause : goal.returns-in_err-inputs-clause-cause
returns-in_err-inputs-clause-cause c =
    handed_on _ _ _ _ _ c.from_residual.ensures
    (λ said h. refused h)
    c.in_err-inputs.ensures.cause

pub returns-in_err-inputs-clause-due : goal.returns-in_err-inputs-clause-due
returns-in_err-inputs-clause-due c said is =
    handed_on _ (λ r. r ≡ said) _ _ _ c.from_residual.ensures (λ r h. h) (stop_is_due _ c.in_err-inputs.ensures.due c.in_err-inputs.ensures.refusal_due is)

pub returns-in_err-certificate-clause-cause : goal.returns-in_err-certificate-clause-cause
returns-in_err-certificate-clause-cause c =
    handed_on _ _ _ _ _ c.from_residual-in_err-certificate.ensures
    (λ said h. passed _ c.in_ok-inputs.ensures.cause (refused h))
    c.in_err-certificate.ensures.cause

pub returns-in_err-certificate-clause-due : goal.returns-in_err-certificate-clause-due
returns-in_err-certificate-clause-due c said is =
    let w = check_words c.args.names.now in
    let at1 = at_certificate w c.args.texts.now c.args.text.now said c.in_ok-inputs.inputs c.in_ok-inputs.ensures.due c.in_ok-inputs.ensures.refusal_due is in
    handed_on _ (λ r. r ≡ said) _ _ _ c.from_residual-in_err-certificate.ensures (λ r h. h) (stop_is_due _ c.in_err-certificate.ensures.due c.in_err-certificate.ensures.refusal_due at1)

pub returns-in_err-entry-clause-cause : goal.returns-in_err-entry-clause-cause
returns-in_err-entry-clause-cause c =
    handed_on _ _ _ _ _ c.from_residual-in_err-entry.ensures
    (λ said h. passed _ c.in_ok-inputs.ensures.cause (passed _ c.in_ok-certificate.ensures.cause (refused h)))
    c.in_err-entry.ensures.cause

pub returns-in_err-entry-clause-due : goal.returns-in_err-entry-clause-due
returns-in_err-entry-clause-due c said is =
    let w = check_words c.args.names.now in
    let at1 = at_certificate w c.args.texts.now c.args.text.now said c.in_ok-inputs.inputs c.in_ok-inputs.ensures.due c.in_ok-inputs.ensures.refusal_due is in
    let at2 = at_entry w c.args.texts.now c.args.text.now said c.in_ok-inputs.inputs c.in_ok-certificate.certificate c.in_ok-certificate.ensures.due c.in_ok-certificate.ensures.refusal_due at1 in
    handed_on _ (λ r. r ≡ said) _ _ _ c.from_residual-in_err-entry.ensures (λ r h. h) (stop_is_due _ c.in_err-entry.ensures.due c.in_err-entry.ensures.refusal_due at2)

pub returns-in_err-program-clause-cause : goal.returns-in_err-program-clause-cause
returns-in_err-program-clause-cause c =
    handed_on _ _ _ _ _ c.from_residual-in_err-program.ensures
    (λ said h. passed _ c.in_ok-inputs.ensures.cause (passed _ c.in_ok-certificate.ensures.cause (passed _ c.in_ok-entry.ensures.cause (refused h))))
    c.in_err-program.ensures.cause

pub returns-in_err-program-clause-due : goal.returns-in_err-program-clause-due
returns-in_err-program-clause-due c said is =
    let w = check_words c.args.names.now in
    let at1 = at_certificate w c.args.texts.now c.args.text.now said c.in_ok-inputs.inputs c.in_ok-inputs.ensures.due c.in_ok-inputs.ensures.refusal_due is in
    let at2 = at_entry w c.args.texts.now c.args.text.now said c.in_ok-inputs.inputs c.in_ok-certificate.certificate c.in_ok-certificate.ensures.due c.in_ok-certificate.ensures.refusal_due at1 in
    let at3 = at_program w c.args.texts.now c.args.text.now said c.in_ok-inputs.inputs c.in_ok-certificate.certificate c.in_ok-entry.entry c.in_ok-entry.ensures.due c.in_ok-entry.ensures.refusal_due at2 in
    handed_on _ (λ r. r ≡ said) _ _ _ c.from_residual-in_err-program.ensures (λ r h. h) (stop_is_due _ c.in_err-program.ensures.due c.in_err-program.ensures.refusal_due at3)

pub returns-in_err-unfolded-clause-cause : goal.returns-in_err-unfolded-clause-cause
returns-in_err-unfolded-clause-cause c =
    handed_on _ _ _ _ _ c.from_residual-in_err-unfolded.ensures
    (λ said h. passed _ c.in_ok-inputs.ensures.cause (passed _ c.in_ok-certificate.ensures.cause (passed _ c.in_ok-entry.ensures.cause (passed _ c.in_ok-program.ensures.cause (refused h)))))
    c.in_err-unfolded.ensures.cause

pub returns-in_err-unfolded-clause-due : goal.returns-in_err-unfolded-clause-due
returns-in_err-unfolded-clause-due c said is =
    let w = check_words c.args.names.now in
    let at1 = at_certificate w c.args.texts.now c.args.text.now said c.in_ok-inputs.inputs c.in_ok-inputs.ensures.due c.in_ok-inputs.ensures.refusal_due is in
    let at2 = at_entry w c.args.texts.now c.args.text.now said c.in_ok-inputs.inputs c.in_ok-certificate.certificate c.in_ok-certificate.ensures.due c.in_ok-certificate.ensures.refusal_due at1 in
    let at3 = at_program w c.args.texts.now c.args.text.now said c.in_ok-inputs.inputs c.in_ok-certificate.certificate c.in_ok-entry.entry c.in_ok-entry.ensures.due c.in_ok-entry.ensures.refusal_due at2 in
    let at4 = at_unfolding w c.args.texts.now c.args.text.now said c.in_ok-inputs.inputs c.in_ok-certificate.certificate c.in_ok-entry.entry c.in_ok-program.program c.in_ok-program.ensures.due c.in_ok-program.ensures.refusal_due at3 in
    handed_on _ (λ r. r ≡ said) _ _ _ c.from_residual-in_err-unfolded.ensures (λ r h. h) (stop_is_due _ c.in_err-unfolded.ensures.due c.in_err-unfolded.ensures.refusal_due at4)

pub returns-clause-cause : goal.returns-clause-cause
returns-clause-cause c =
    answers_for _ _ c.verdict_on.result
    (λ said h. passed _ c.in_ok-inputs.ensures.cause (passed _ c.in_ok-certificate.ensures.cause (passed _ c.in_ok-entry.ensures.cause (passed _ c.in_ok-program.ensures.cause (passed _ c.in_ok-unfolded.ensures.cause (h))))))
    c.verdict_on.ensures.cause

pub returns-clause-due : goal.returns-clause-due
returns-clause-due c said is =
    let w = check_words c.args.names.now in
    let at1 = at_certificate w c.args.texts.now c.args.text.now said c.in_ok-inputs.inputs c.in_ok-inputs.ensures.due c.in_ok-inputs.ensures.refusal_due is in
    let at2 = at_entry w c.args.texts.now c.args.text.now said c.in_ok-inputs.inputs c.in_ok-certificate.certificate c.in_ok-certificate.ensures.due c.in_ok-certificate.ensures.refusal_due at1 in
    let at3 = at_program w c.args.texts.now c.args.text.now said c.in_ok-inputs.inputs c.in_ok-certificate.certificate c.in_ok-entry.entry c.in_ok-entry.ensures.due c.in_ok-entry.ensures.refusal_due at2 in
    let at4 = at_unfolding w c.args.texts.now c.args.text.now said c.in_ok-inputs.inputs c.in_ok-certificate.certificate c.in_ok-entry.entry c.in_ok-program.program c.in_ok-program.ensures.due c.in_ok-program.ensures.refusal_due at3 in
    let at5 = at_verdict w c.args.texts.now c.args.text.now said c.in_ok-inputs.inputs c.in_ok-certificate.certificate c.in_ok-program.program c.in_ok-unfolded.unfolded c.in_ok-unfolded.ensures.due c.in_ok-unfolded.ensures.refusal_due at4 in
    c.verdict_on.ensures.due said at5

pub unfolding_of-requires : goal.unfolding_of-requires
unfolding_of-requires c =
    let inputs = c.in_ok-inputs.inputs in
    record { image = inputs.image; facts = inputs.facts; start = c.in_ok-entry.entry; machine = inputs.machine; is = c.in_ok-program.ensures.cause }

pub verdict_on-requires-clause-unfolded : goal.verdict_on-requires-clause-unfolded
verdict_on-requires-clause-unfolded c =
    unfolded_on c.in_ok-inputs.inputs c.in_ok-entry.entry c.in_ok-program.program _ c.in_ok-program.ensures.cause c.in_ok-unfolded.ensures.cause

pub verdict_on-requires-clause-few : goal.verdict_on-requires-clause-few
verdict_on-requires-clause-few c = c.in_ok-unfolded.ensures.cause.few
