-- The first stage that refuses decides; what the stages before it gave is one.
use Rattle.std.proofs.Common.{◌≡◌, ◌∙◌, ap}
use Rattle.wx_base.specs.Run.{run_of}
use Rattle.flow_graph.specs.Program.{rules_of}
use Rattle.run_machine.specs.Report.{report_of}
use Rattle.start_file.specs.StartState.{start_of}
use Rattle.wcet_front.specs.declared.reply.Reply.TheVariants as reply
use Rattle.wcet_front.specs.Stages.{refused, passed}
use Rattle.wcet_front.specs.StageLaws.{handed_on, starved, stop_is_due}
use Rattle.wcet_cli.specs.Commands.{run_words}
use Rattle.wcet_cli.proofs.RunDue.{at_entry, at_start, at_program, reports}
use Rattle.wcet_cli.proofs.commands.run.report.Goals as goal

pub returns-in_err-inputs-clause-cause : goal.returns-in_err-inputs-clause-cause
returns-in_err-inputs-clause-cause c = handed_on _ _ _ _ _ c.from_residual.ensures (λ said h. refused h) c.in_err-inputs.ensures.cause

pub returns-in_err-inputs-clause-due : goal.returns-in_err-inputs-clause-due
returns-in_err-inputs-clause-due c said is =
    handed_on _ (λ r. r ≡ said) _ _ _ c.from_residual.ensures (λ r h. h) (stop_is_due _ c.in_err-inputs.ensures.due c.in_err-inputs.ensures.refusal_due is)

pub returns-in_err-entry-clause-cause : goal.returns-in_err-entry-clause-cause
returns-in_err-entry-clause-cause c =
    handed_on _ _ _ _ _ c.from_residual-in_err-entry.ensures (λ said h. passed _ c.in_ok-inputs.ensures.cause (refused h)) c.in_err-entry.ensures.cause

pub returns-in_err-entry-clause-due : goal.returns-in_err-entry-clause-due
returns-in_err-entry-clause-due c said is =
    let at1 = at_entry (run_words c.args.run.now) c.args.texts.now c.args.start.now said c.in_ok-inputs.inputs c.in_ok-inputs.ensures.due c.in_ok-inputs.ensures.refusal_due is in
    handed_on _ (λ r. r ≡ said) _ _ _ c.from_residual-in_err-entry.ensures (λ r h. h) (stop_is_due _ c.in_err-entry.ensures.due c.in_err-entry.ensures.refusal_due at1)

pub returns-in_err-begin-clause-cause : goal.returns-in_err-begin-clause-cause
returns-in_err-begin-clause-cause c =
    handed_on _ _ _ _ _ c.from_residual-in_err-begin.ensures
    (λ said h. passed _ c.in_ok-inputs.ensures.cause (passed _ c.in_ok-entry.ensures.cause (refused h))) c.in_err-begin.ensures.cause

pub returns-in_err-begin-clause-due : goal.returns-in_err-begin-clause-due
returns-in_err-begin-clause-due c said is =
    let w = run_words c.args.run.now in
    let at1 = at_entry w c.args.texts.now c.args.start.now said c.in_ok-inputs.inputs c.in_ok-inputs.ensures.due c.in_ok-inputs.ensures.refusal_due is in
    let at2 = at_start w c.args.texts.now c.args.start.now said c.in_ok-inputs.inputs c.in_ok-entry.entry c.in_ok-entry.ensures.due c.in_ok-entry.ensures.refusal_due at1 in
    handed_on _ (λ r. r ≡ said) _ _ _ c.from_residual-in_err-begin.ensures (λ r h. h) (stop_is_due _ c.in_err-begin.ensures.due c.in_err-begin.ensures.refusal_due at2)

pub returns-in_err-program-clause-cause : goal.returns-in_err-program-clause-cause
returns-in_err-program-clause-cause c =
    handed_on _ _ _ _ _ c.from_residual-in_err-program.ensures
    (λ said h. passed _ c.in_ok-inputs.ensures.cause (passed _ c.in_ok-entry.ensures.cause (passed _ c.in_ok-begin.ensures.cause (refused h))))
    c.in_err-program.ensures.cause

pub returns-in_err-program-clause-due : goal.returns-in_err-program-clause-due
returns-in_err-program-clause-due c said is =
    let w = run_words c.args.run.now in
    let image = c.in_ok-inputs.inputs.image in
    let at1 = at_entry w c.args.texts.now c.args.start.now said c.in_ok-inputs.inputs c.in_ok-inputs.ensures.due c.in_ok-inputs.ensures.refusal_due is in
    let at2 = at_start w c.args.texts.now c.args.start.now said c.in_ok-inputs.inputs c.in_ok-entry.entry c.in_ok-entry.ensures.due c.in_ok-entry.ensures.refusal_due at1 in
    let at3 = at_program w c.args.texts.now c.args.start.now said c.in_ok-inputs.inputs c.in_ok-entry.entry (start_of image c.in_ok-begin.begin) c.in_ok-begin.ensures.due c.in_ok-begin.ensures.refusal_due at2 in
    handed_on _ (λ r. r ≡ said) _ _ _ c.from_residual-in_err-program.ensures (λ r h. h) (stop_is_due _ c.in_err-program.ensures.due c.in_err-program.ensures.refusal_due at3)

pub returns-in_err-report-clause-due : goal.returns-in_err-report-clause-due
returns-in_err-report-clause-due c said is = starved _ _ _ c.from_residual-in_err-report.ensures

pub returns-clause-cause : goal.returns-clause-cause
returns-clause-cause c =
    let inputs = c.in_ok-inputs.inputs in
    let begin = start_of inputs.image c.in_ok-begin.begin in
    let rules = rules_of inputs.facts c.in_ok-program.program in
    let same = c.in_ok-report.ensures.report ∙ ap (λ at. report_of (run_of inputs.machine inputs.image rules at begin c.args.run.now.steps)) c.in_ok-begin.ensures.entered in
    passed _ c.in_ok-inputs.ensures.cause (passed _ c.in_ok-entry.ensures.cause (passed _ c.in_ok-begin.ensures.cause
    (passed _ c.in_ok-program.ensures.cause (ap reply.Ran same))))

pub returns-clause-due : goal.returns-clause-due
returns-clause-due c said is =
    let w = run_words c.args.run.now in
    let inputs = c.in_ok-inputs.inputs in
    let begin = start_of inputs.image c.in_ok-begin.begin in
    let rules = rules_of inputs.facts c.in_ok-program.program in
    let same = c.in_ok-report.ensures.report ∙ ap (λ at. report_of (run_of inputs.machine inputs.image rules at begin c.args.run.now.steps)) c.in_ok-begin.ensures.entered in
    let at1 = at_entry w c.args.texts.now c.args.start.now said inputs c.in_ok-inputs.ensures.due c.in_ok-inputs.ensures.refusal_due is in
    let at2 = at_start w c.args.texts.now c.args.start.now said inputs c.in_ok-entry.entry c.in_ok-entry.ensures.due c.in_ok-entry.ensures.refusal_due at1 in
    let at3 = at_program w c.args.texts.now c.args.start.now said inputs c.in_ok-entry.entry begin c.in_ok-begin.ensures.due c.in_ok-begin.ensures.refusal_due at2 in
    reports w c.args.texts.now c.args.start.now said inputs c.in_ok-entry.entry begin c.in_ok-program.program c.in_ok-report.report c.rules_are_one.ensures c.in_ok-program.ensures.cause c.in_ok-program.ensures.refusal_due same at3
