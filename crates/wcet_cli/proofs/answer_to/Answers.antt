use Rattle.std.proofs.Common.{map, string_bytes, refl, subst, arith}
use Rattle.wcet_front.specs.FileLaws.{appends_nothing}
use Rattle.wcet_front.specs.WritingLaws.{only_due}
use Rattle.wcet_cli.specs.Commands.{Flat, Run, Migrate, Check, IsForm, form_of, run_words, migrate_words, check_words}
use Rattle.wcet_cli.specs.Call.{NoForm}
use Rattle.wcet_cli.proofs.Answering.{answers_only, starves_only, answers_form, starves_form, due_form, asked_form, leaves_all, leaves_but, not_nothing}
use Rattle.wcet_cli.proofs.answer_to.Goals as goal

pub returns-in-Some-Flat-clause-cause : goal.returns-in-Some-Flat-clause-cause
returns-in-Some-Flat-clause-cause g c =
    let words = map string_bytes c.args.words.now in
    let form = Flat c.in-Some-Flat.code.now in
    let is : IsForm words form = subst (λ x. IsForm words (form_of x)) c.in-Some-Flat.field-0-is c.in-Some-Flat.ensures in
    answers_form words form is c.flat.result _ (answers_only _ (record { holds = c.flat.ensures.holds; names = c.flat.ensures.write_names; faults = c.flat.ensures.write_faults }) _ _ c.flat.result c.flat.ensures.cause)

pub returns-in-Some-Flat-clause-starved : goal.returns-in-Some-Flat-clause-starved
returns-in-Some-Flat-clause-starved g c =
    let words = map string_bytes c.args.words.now in
    let form = Flat c.in-Some-Flat.code.now in
    let is : IsForm words form = subst (λ x. IsForm words (form_of x)) c.in-Some-Flat.field-0-is c.in-Some-Flat.ensures in
    starves_form words form is c.flat.result _ (starves_only _ (record { holds = c.flat.ensures.holds; names = c.flat.ensures.write_names; faults = c.flat.ensures.write_faults }) _ _ c.flat.result c.flat.ensures.starved)

pub returns-in-Some-Flat-clause-due : goal.returns-in-Some-Flat-clause-due
returns-in-Some-Flat-clause-due g c contents due told d =
    let words = map string_bytes c.args.words.now in
    let form = Flat c.in-Some-Flat.code.now in
    let is : IsForm words form = subst (λ x. IsForm words (form_of x)) c.in-Some-Flat.field-0-is c.in-Some-Flat.ensures in
    due_form words form is c.flat.result contents due (λ cause free. c.flat.ensures.due contents due told (only_due _ _ _ _ cause) free) d

pub returns-in-Some-Flat-clause-others : goal.returns-in-Some-Flat-clause-others
returns-in-Some-Flat-clause-others g c names named = leaves_all _ _ names c.flat.ensures.holds

pub returns-in-Some-Flat-clause-asked : goal.returns-in-Some-Flat-clause-asked
returns-in-Some-Flat-clause-asked g c names named =
    let words = map string_bytes c.args.words.now in
    let form = Flat c.in-Some-Flat.code.now in
    let is : IsForm words form = subst (λ x. IsForm words (form_of x)) c.in-Some-Flat.field-0-is c.in-Some-Flat.ensures in
    asked_form words names form _ _ is named (omega (arith, c.flat.ensures.asked))

pub returns-in-Some-Flat-clause-unasked : goal.returns-in-Some-Flat-clause-unasked
returns-in-Some-Flat-clause-unasked g c unfit =
    let words = map string_bytes c.args.words.now in
    let form = Flat c.in-Some-Flat.code.now in
    let is : IsForm words form = subst (λ x. IsForm words (form_of x)) c.in-Some-Flat.field-0-is c.in-Some-Flat.ensures in
    absurd (unfit (record { form = form; is = is }))

pub returns-in-Some-Run-clause-cause : goal.returns-in-Some-Run-clause-cause
returns-in-Some-Run-clause-cause g c =
    let words = map string_bytes c.args.words.now in
    let form = Run (run_words c.in-Some-Run.run') in
    let is : IsForm words form = subst (λ x. IsForm words (form_of x)) c.in-Some-Run.field-0-is c.in-Some-Run.ensures in
    answers_form words form is c.run.result _ (answers_only _ (record { holds = c.run.ensures.holds; names = c.run.ensures.write_names; faults = c.run.ensures.write_faults }) _ _ c.run.result c.run.ensures.cause)

pub returns-in-Some-Run-clause-starved : goal.returns-in-Some-Run-clause-starved
returns-in-Some-Run-clause-starved g c =
    let words = map string_bytes c.args.words.now in
    let form = Run (run_words c.in-Some-Run.run') in
    let is : IsForm words form = subst (λ x. IsForm words (form_of x)) c.in-Some-Run.field-0-is c.in-Some-Run.ensures in
    starves_form words form is c.run.result _ (starves_only _ (record { holds = c.run.ensures.holds; names = c.run.ensures.write_names; faults = c.run.ensures.write_faults }) _ _ c.run.result c.run.ensures.starved)

pub returns-in-Some-Run-clause-due : goal.returns-in-Some-Run-clause-due
returns-in-Some-Run-clause-due g c contents due told d =
    let words = map string_bytes c.args.words.now in
    let form = Run (run_words c.in-Some-Run.run') in
    let is : IsForm words form = subst (λ x. IsForm words (form_of x)) c.in-Some-Run.field-0-is c.in-Some-Run.ensures in
    due_form words form is c.run.result contents due (λ cause free. c.run.ensures.due contents due told (only_due _ _ _ _ cause) free) d

pub returns-in-Some-Run-clause-others : goal.returns-in-Some-Run-clause-others
returns-in-Some-Run-clause-others g c names named = leaves_all _ _ names c.run.ensures.holds

pub returns-in-Some-Run-clause-asked : goal.returns-in-Some-Run-clause-asked
returns-in-Some-Run-clause-asked g c names named =
    let words = map string_bytes c.args.words.now in
    let form = Run (run_words c.in-Some-Run.run') in
    let is : IsForm words form = subst (λ x. IsForm words (form_of x)) c.in-Some-Run.field-0-is c.in-Some-Run.ensures in
    asked_form words names form _ _ is named (omega (arith, c.run.ensures.asked))

pub returns-in-Some-Run-clause-unasked : goal.returns-in-Some-Run-clause-unasked
returns-in-Some-Run-clause-unasked g c unfit =
    let words = map string_bytes c.args.words.now in
    let form = Run (run_words c.in-Some-Run.run') in
    let is : IsForm words form = subst (λ x. IsForm words (form_of x)) c.in-Some-Run.field-0-is c.in-Some-Run.ensures in
    absurd (unfit (record { form = form; is = is }))

pub returns-in-Some-Migrate-clause-cause : goal.returns-in-Some-Migrate-clause-cause
returns-in-Some-Migrate-clause-cause g c =
    let words = map string_bytes c.args.words.now in
    let form = Migrate (migrate_words c.in-Some-Migrate.migrate) in
    let is : IsForm words form = subst (λ x. IsForm words (form_of x)) c.in-Some-Migrate.field-0-is c.in-Some-Migrate.ensures in
    answers_form words form is c.migrate.result _ c.migrate.ensures.cause

pub returns-in-Some-Migrate-clause-starved : goal.returns-in-Some-Migrate-clause-starved
returns-in-Some-Migrate-clause-starved g c =
    let words = map string_bytes c.args.words.now in
    let form = Migrate (migrate_words c.in-Some-Migrate.migrate) in
    let is : IsForm words form = subst (λ x. IsForm words (form_of x)) c.in-Some-Migrate.field-0-is c.in-Some-Migrate.ensures in
    starves_form words form is c.migrate.result _ c.migrate.ensures.starved

pub returns-in-Some-Migrate-clause-due : goal.returns-in-Some-Migrate-clause-due
returns-in-Some-Migrate-clause-due g c contents due told d =
    let words = map string_bytes c.args.words.now in
    let form = Migrate (migrate_words c.in-Some-Migrate.migrate) in
    let is : IsForm words form = subst (λ x. IsForm words (form_of x)) c.in-Some-Migrate.field-0-is c.in-Some-Migrate.ensures in
    due_form words form is c.migrate.result contents due (λ cause free. c.migrate.ensures.due contents due told cause free) d

pub returns-in-Some-Migrate-clause-others : goal.returns-in-Some-Migrate-clause-others
returns-in-Some-Migrate-clause-others g c names named =
    let words = map string_bytes c.args.words.now in
    let form = Migrate (migrate_words c.in-Some-Migrate.migrate) in
    let is : IsForm words form = subst (λ x. IsForm words (form_of x)) c.in-Some-Migrate.field-0-is c.in-Some-Migrate.ensures in
    leaves_but words names form _ _ _ is refl named c.migrate.ensures.others

pub returns-in-Some-Migrate-clause-untouched : goal.returns-in-Some-Migrate-clause-untouched
returns-in-Some-Migrate-clause-untouched g c nothing =
    let words = map string_bytes c.args.words.now in
    let form = Migrate (migrate_words c.in-Some-Migrate.migrate) in
    let is : IsForm words form = subst (λ x. IsForm words (form_of x)) c.in-Some-Migrate.field-0-is c.in-Some-Migrate.ensures in
    absurd (not_nothing words form _ is refl nothing)

pub returns-in-Some-Migrate-clause-asked : goal.returns-in-Some-Migrate-clause-asked
returns-in-Some-Migrate-clause-asked g c names named =
    let words = map string_bytes c.args.words.now in
    let form = Migrate (migrate_words c.in-Some-Migrate.migrate) in
    let is : IsForm words form = subst (λ x. IsForm words (form_of x)) c.in-Some-Migrate.field-0-is c.in-Some-Migrate.ensures in
    asked_form words names form _ _ is named (omega (arith, c.migrate.ensures.asked))

pub returns-in-Some-Migrate-clause-unasked : goal.returns-in-Some-Migrate-clause-unasked
returns-in-Some-Migrate-clause-unasked g c unfit =
    let words = map string_bytes c.args.words.now in
    let form = Migrate (migrate_words c.in-Some-Migrate.migrate) in
    let is : IsForm words form = subst (λ x. IsForm words (form_of x)) c.in-Some-Migrate.field-0-is c.in-Some-Migrate.ensures in
    absurd (unfit (record { form = form; is = is }))

pub returns-in-Some-Check-clause-cause : goal.returns-in-Some-Check-clause-cause
returns-in-Some-Check-clause-cause g c =
    let words = map string_bytes c.args.words.now in
    let form = Check (check_words c.in-Some-Check.check) in
    let is : IsForm words form = subst (λ x. IsForm words (form_of x)) c.in-Some-Check.field-0-is c.in-Some-Check.ensures in
    answers_form words form is c.check.result _ (answers_only _ (record { holds = c.check.ensures.holds; names = c.check.ensures.write_names; faults = c.check.ensures.write_faults }) _ _ c.check.result c.check.ensures.cause)

pub returns-in-Some-Check-clause-starved : goal.returns-in-Some-Check-clause-starved
returns-in-Some-Check-clause-starved g c =
    let words = map string_bytes c.args.words.now in
    let form = Check (check_words c.in-Some-Check.check) in
    let is : IsForm words form = subst (λ x. IsForm words (form_of x)) c.in-Some-Check.field-0-is c.in-Some-Check.ensures in
    starves_form words form is c.check.result _ (starves_only _ (record { holds = c.check.ensures.holds; names = c.check.ensures.write_names; faults = c.check.ensures.write_faults }) _ _ c.check.result c.check.ensures.starved)

pub returns-in-Some-Check-clause-due : goal.returns-in-Some-Check-clause-due
returns-in-Some-Check-clause-due g c contents due told d =
    let words = map string_bytes c.args.words.now in
    let form = Check (check_words c.in-Some-Check.check) in
    let is : IsForm words form = subst (λ x. IsForm words (form_of x)) c.in-Some-Check.field-0-is c.in-Some-Check.ensures in
    due_form words form is c.check.result contents due (λ cause free. c.check.ensures.due contents due told (only_due _ _ _ _ cause) free) d

pub returns-in-Some-Check-clause-others : goal.returns-in-Some-Check-clause-others
returns-in-Some-Check-clause-others g c names named = leaves_all _ _ names c.check.ensures.holds

pub returns-in-Some-Check-clause-asked : goal.returns-in-Some-Check-clause-asked
returns-in-Some-Check-clause-asked g c names named =
    let words = map string_bytes c.args.words.now in
    let form = Check (check_words c.in-Some-Check.check) in
    let is : IsForm words form = subst (λ x. IsForm words (form_of x)) c.in-Some-Check.field-0-is c.in-Some-Check.ensures in
    asked_form words names form _ _ is named (omega (arith, c.check.ensures.asked))

pub returns-in-Some-Check-clause-unasked : goal.returns-in-Some-Check-clause-unasked
returns-in-Some-Check-clause-unasked g c unfit =
    let words = map string_bytes c.args.words.now in
    let form = Check (check_words c.in-Some-Check.check) in
    let is : IsForm words form = subst (λ x. IsForm words (form_of x)) c.in-Some-Check.field-0-is c.in-Some-Check.ensures in
    absurd (unfit (record { form = form; is = is }))

pub returns-in-None-clause-cause : goal.returns-in-None-clause-cause
returns-in-None-clause-cause g c = NoForm c.in-None.ensures (appends_nothing _) (record { holds = refl; names = refl; faults = refl }) refl

pub returns-in-None-clause-others : goal.returns-in-None-clause-others
returns-in-None-clause-others g c names named = leaves_all _ _ names refl
