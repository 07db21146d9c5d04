use Rattle.std.proofs.Common.{◌≡◌, sym, ◌∙◌, arith}
use Rattle.std.proofs.lemmas.Option.{same_Some}
use Rattle.cert_check.proofs.ChargeLemmas.{site_is}
use Rattle.cert_check.proofs.charging.charged_at.Goals as goal

pub classes_at-classes-requires : goal.classes_at-classes-requires
classes_at-classes-requires c = omega (arith, c.requires.subject.classed.long, c.requires.node)

pub charged-requires : goal.charged-requires
charged-requires c = rw c.as_slice.ensures.value ((c.in_ok-charges.ensures c.classes_at-classes.result.now c.classes_at-classes.ensures).small)

pub returns-clause-site : goal.returns-clause-site
returns-clause-site c = λ kinds at.
    let s = c.args.subject.now in
    let found = c.classes_at-classes.result.now in
    let same : found ≡ kinds = same_Some found kinds (sym c.classes_at-classes.ensures ∙ at) in
    let are = c.in_ok-charges.ensures found c.classes_at-classes.ensures in
    site_is c.charged.new.table s.unfolded.now s.classes.now s.certificate.now c.args.node found kinds c.in_ok-charges.charges.items c.charged.result same are
    (rw c.as_slice.ensures.value at c.charged.ensures.times) c.charged.ensures.charged
