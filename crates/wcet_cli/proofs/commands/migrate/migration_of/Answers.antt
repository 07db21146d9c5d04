use Rattle.std.proofs.Common.{◌≡◌}
use Rattle.wcet_front.specs.StageLaws.{handed_on}
use Rattle.wcet_cli.proofs.Migrating.{migration_is, refusal_is_due, numbers_are_due}
use Rattle.wcet_cli.proofs.commands.migrate.migration_of.Goals as goal

pub returns-in_err-certificate-clause-cause : goal.returns-in_err-certificate-clause-cause
returns-in_err-certificate-clause-cause c = handed_on _ _ _ _ _ c.from_residual.ensures (λ said h. h) c.in_err-certificate.ensures.cause

pub returns-in_err-certificate-clause-due : goal.returns-in_err-certificate-clause-due
returns-in_err-certificate-clause-due c target files said is =
    handed_on _ (λ r. r ≡ said) _ _ _ c.from_residual.ensures (λ r h. h)
    (refusal_is_due target c.args.source.now files said _ c.in_err-certificate.ensures.due c.in_err-certificate.ensures.refusal_due is)

pub returns-clause-cause : goal.returns-clause-cause
returns-clause-cause c =
    let certificate = c.in_ok-certificate.ensures in
    (c.in_ok-certificate.certificate, migration_is _ _ _ c.in_ok-certificate.certificate _ c.written_tells.ensures c.new-text.ensures.items certificate.cause certificate.writable c.in_ok-vectors.ensures.written c.in_ok-vectors.ensures.count, c.len.ensures)

pub returns-clause-due : goal.returns-clause-due
returns-clause-due c target files said is =
    let certificate = c.in_ok-certificate.ensures in
    numbers_are_due target c.args.source.now files said c.in_ok-certificate.certificate _ _ c.one_count.ensures c.len.ensures c.in_ok-vectors.ensures.count certificate.due certificate.refusal_due is
