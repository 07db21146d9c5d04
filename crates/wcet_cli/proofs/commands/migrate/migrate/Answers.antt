use Rattle.std.proofs.Common.{[], ◌∷◌, ◌≡◌, refl, sym, ap, subst}
use Rattle.wcet_front.specs.declared.reply.Reply.TheVariants as reply
use Rattle.wcet_front.specs.Reply.{IsNoFault}
use Rattle.wcet_front.specs.FileLaws.{unread_is_due, reply_is_due, cut_after}
use Rattle.wcet_front.specs.StageLaws.{handed_on, starved_on, starves_anyway}
use Rattle.wcet_front.specs.Writing as writing
use Rattle.wcet_front.specs.Writing.{RepliesOf, in_reading}
use Rattle.wcet_front.specs.WritingLaws.{none_written, worked_then, stopped_then, cut_then}
use Rattle.wcet_cli.specs.Commands.{migrate_words}
use Rattle.wcet_cli.specs.MigrateCommand.{IsMigration, MigrateDoes, migrates, refuses}
use Rattle.wcet_cli.proofs.Migrating.{same_but, but_then}
use Rattle.wcet_cli.proofs.commands.migrate.migrate.Goals as goal

pub returns-in_err-source-clause-cause : goal.returns-in_err-source-clause-cause
returns-in_err-source-clause-cause g c =
    let read = c.in_err-source.ensures in
    handed_on _ _ _ _ _ c.from_residual.ensures
    (λ said h. writing.unread (record { holds = read.holds; names = read.write_names; faults = read.write_faults }) h) read.outcome

pub returns-in_err-source-clause-starved : goal.returns-in_err-source-clause-starved
returns-in_err-source-clause-starved g c =
    let read = c.in_err-source.ensures in
    starved_on _ _ _ _ c.from_residual.ensures
    (λ h. in_reading (record { holds = read.holds; names = read.write_names; faults = read.write_faults }) h) read.starved

pub returns-in_err-source-clause-due : goal.returns-in_err-source-clause-due
returns-in_err-source-clause-due g c contents due told cause fine =
    let w = migrate_words c.args.names.now in
    handed_on _ _ _ _ _ c.from_residual.ensures
    (λ said h free. unread_is_due contents _ _ _ _ (RepliesOf (MigrateDoes w)) said due told h cause free fine) c.in_err-source.ensures.outcome

pub returns-in_err-source-clause-others : goal.returns-in_err-source-clause-others
returns-in_err-source-clause-others g c = same_but _ _ _ c.in_err-source.ensures.holds

pub returns-in_err-migration-clause-cause : goal.returns-in_err-migration-clause-cause
returns-in_err-migration-clause-cause g c =
    let w = migrate_words c.args.names.now in
    let read = c.in_ok-source.ensures in
    handed_on _ _ _ _ _ c.from_residual-in_err-migration.ensures
    (λ said h. writing.worked _ [] read.outcome (refuses h refl)
    (none_written _ (record { holds = read.holds; names = read.write_names; faults = read.write_faults }) (w.source ∷ [])))
    c.in_err-migration.ensures.cause

pub returns-in_err-migration-clause-starved : goal.returns-in_err-migration-clause-starved
returns-in_err-migration-clause-starved g c =
    let read = c.in_ok-source.ensures in
    let cut = cut_after _ _ _ read.outcome in
    starved_on _ _ _ _ c.from_residual-in_err-migration.ensures
    (λ h. in_reading (record { holds = read.holds; names = read.write_names; faults = read.write_faults }) h) (starves_anyway _ _ cut)

pub returns-in_err-migration-clause-due : goal.returns-in_err-migration-clause-due
returns-in_err-migration-clause-due g c contents due told cause fine =
    let w = migrate_words c.args.names.now in
    let is = reply_is_due contents _ _ _ _ _ (RepliesOf (MigrateDoes w)) due told c.in_ok-source.ensures.outcome cause fine in
    handed_on _ (λ r. r ≡ due) _ _ _ c.from_residual-in_err-migration.ensures (λ said same free. same) (c.in_err-migration.ensures.due w.target is.files due is.deed)

pub returns-in_err-migration-clause-others : goal.returns-in_err-migration-clause-others
returns-in_err-migration-clause-others g c = same_but _ _ _ c.in_ok-source.ensures.holds

pub returns-in_err-migration-clause-sound : goal.returns-in_err-migration-clause-sound
returns-in_err-migration-clause-sound g c reliable =
    handed_on _ _ _ _ _ c.from_residual-in_err-migration.ensures (λ said h. subst IsNoFault (sym h.3) tt) c.in_err-migration.ensures.cause

pub returns-in_err-write_file-clause-cause : goal.returns-in_err-write_file-clause-cause
returns-in_err-write_file-clause-cause g c =
    let w = migrate_words c.args.names.now in
    let read = c.in_ok-source.ensures in
    let write = c.in_err-write_file.ensures in
    let made = c.in_ok-migration.ensures.cause in
    let deed = migrates made.0 _ c.in_ok-migration.migration.vectors
    (subst (λ text. IsMigration c.in_ok-source.source made.0 text c.in_ok-migration.migration.vectors) (sym c.as_slice.ensures.value) made.1) refl refl
    in
    handed_on _ _ _ _ _ c.from_residual-in_err-write_file.ensures
    (λ said h. stopped_then _ _ _ _ _ _ _ _ _ _ _ _ _ _ _ read.holds write.read_faults write.read_names read.write_faults read.write_names
    (w.source ∷ []) (c.in_ok-source.source ∷ []) (MigrateDoes w) _ _ read.outcome deed said h) write.outcome

pub returns-in_err-write_file-clause-starved : goal.returns-in_err-write_file-clause-starved
returns-in_err-write_file-clause-starved g c =
    let w = migrate_words c.args.names.now in
    let read = c.in_ok-source.ensures in
    let write = c.in_err-write_file.ensures in
    let made = c.in_ok-migration.ensures.cause in
    let deed = migrates made.0 _ c.in_ok-migration.migration.vectors
    (subst (λ text. IsMigration c.in_ok-source.source made.0 text c.in_ok-migration.migration.vectors) (sym c.as_slice.ensures.value) made.1) refl refl
    in
    starved_on _ _ _ _ c.from_residual-in_err-write_file.ensures
    (λ h. cut_then _ _ _ _ _ _ _ _ _ _ _ _ _ _ _ read.holds write.read_faults write.read_names read.write_faults read.write_names
    (w.source ∷ []) (c.in_ok-source.source ∷ []) (MigrateDoes w) _ _ read.outcome deed h) write.starved

pub returns-in_err-write_file-clause-due : goal.returns-in_err-write_file-clause-due
returns-in_err-write_file-clause-due g c contents due told cause fine =
    handed_on _ _ _ _ _ c.from_residual-in_err-write_file.ensures (λ said h free. absurd (subst IsNoFault h.is free)) c.in_err-write_file.ensures.outcome

pub returns-in_err-write_file-clause-others : goal.returns-in_err-write_file-clause-others
returns-in_err-write_file-clause-others g c = but_then _ _ _ _ c.in_ok-source.ensures.holds c.in_err-write_file.ensures.others

pub returns-clause-cause : goal.returns-clause-cause
returns-clause-cause g c =
    let w = migrate_words c.args.names.now in
    let read = c.in_ok-source.ensures in
    let write = c.in_ok-write_file.ensures in
    let made = c.in_ok-migration.ensures.cause in
    let deed = migrates made.0 _ c.in_ok-migration.migration.vectors
    (subst (λ text. IsMigration c.in_ok-source.source made.0 text c.in_ok-migration.migration.vectors) (sym c.as_slice.ensures.value) made.1) refl
    (ap (λ n. reply.Migrated n c.in_ok-migration.migration.vectors) made.2)
    in
    worked_then _ _ _ _ _ _ _ _ _ _ _ _ _ _ _ read.holds write.read_faults write.read_names read.write_faults read.write_names
    (w.source ∷ []) (c.in_ok-source.source ∷ []) (MigrateDoes w) _ _ read.outcome deed write.outcome

pub returns-clause-due : goal.returns-clause-due
returns-clause-due g c contents due told cause fine free =
    let w = migrate_words c.args.names.now in
    let is = reply_is_due contents _ _ _ _ _ (RepliesOf (MigrateDoes w)) due told c.in_ok-source.ensures.outcome cause fine in
    c.in_ok-migration.ensures.due w.target is.files due is.deed

pub returns-clause-others : goal.returns-clause-others
returns-clause-others g c = but_then _ _ _ _ c.in_ok-source.ensures.holds c.in_ok-write_file.ensures.others
