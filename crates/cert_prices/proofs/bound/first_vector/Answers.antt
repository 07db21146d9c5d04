use Rattle.std.proofs.Common.{◌<◌, List, length, slice_get, ap, arith, ◌∙◌}
use Rattle.cert_text.specs.declared.certificate.CertVector.{CertVector}
use Rattle.cert_prices.proofs.ReadLemmas.{element}
use Rattle.cert_prices.proofs.StartLemmas.{covering}
use Rattle.cert_prices.proofs.bound.first_vector.Goals as goal

pub returns : goal.returns
returns c =
    let u = c.args.u.now in
    let cert = c.args.c.now in
    let families = c.as_slice.result.now in
    let family = c.index-as_slice-u.result in
    let same = ap length c.as_slice.ensures in
    let within : u.start < length families = omega (arith, same) in
    covering u cert family c.first.result
    (element cert.families families u.start family c.as_slice.ensures within c.index-as_slice-u.is)
    (c.first.ensures.value ∙ ap (λ (vs : List CertVector). slice_get vs 0) c.as_slice-2.ensures)
