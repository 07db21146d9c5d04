use Rattle.std.proofs.Common.{sym, subst}
use Rattle.cert_text.specs.Text.{IsTextOf, IsRefusal}
use Rattle.wcet_front.proofs.NoCertificate.{refused_as}
use Rattle.wcet_front.proofs.stages.certificate_in.Goals as goal

pub returns-in-Ok-clause-due : goal.returns-in-Ok-clause-due
returns-in-Ok-clause-due c certificate is =
    c.in-Ok.ensures.once certificate (subst (λ bytes. IsTextOf bytes certificate) (sym c.as_bytes.ensures) is)

pub returns-in-Err : goal.returns-in-Err
returns-in-Err c =
    let bad = c.bad_certificate.ensures in
    record {
      cause = (c.in-Err.refusal, subst (λ bytes. IsRefusal bytes c.in-Err.refusal) c.as_bytes.ensures c.in-Err.ensures.refused, bad.refused, bad.is);
      due = λ certificate is. bad.refused (c.in-Err.ensures.taken certificate (subst (λ bytes. IsTextOf bytes certificate) (sym c.as_bytes.ensures) is));
      refusal_due = λ said is.
          refused_as c.in-Err.refusal is.0 _ said bad.is bad.refused
          (c.in-Err.ensures.due is.0 (subst (λ bytes. IsRefusal bytes is.0) (sym c.as_bytes.ensures) is.1) is.2) is.3;
      writable = tt;
    }
