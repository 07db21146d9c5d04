use Rattle.std.proofs.Common.{◌≡◌, ◌+◌, ◌<◌, [], length, get_or, slice_get, Some, sym, ◌∙◌}
use Rattle.std.proofs.lemmas.Option.{slice_get-get_or}
use Rattle.pipe_block.specs.declared.diagrams.Outcome.{Outcome}
use Rattle.cert_judge.specs.Payments.{PaysInto}
use Rattle.cert_judge.proofs.PaymentLemmas.{pair_pays_by}
use Rattle.cert_judge.proofs.edge.pair_pays.Goals as goal

pub returns-in-Some : goal.returns-in-Some
returns-in-Some c =
    let k = c.args.crossing.now in
    let default : Outcome = record { cost = 0; vector = record { slots = [] } } in
    let pair : slice_get c.args.pairs.now c.args.i ≡ Some (c.in-Some.position, c.in-Some.charge) = sym c.get.ensures ∙ c.in-Some.is in
    let less : c.in-Some.position < length c.args.outcomes.now = c.requires.listed (c.in-Some.position, c.in-Some.charge) pair in
    pair_pays_by c.args.pairs.now c.args.outcomes.now (λ charge. PaysInto k.family.now k.entering k.returning (c.args.potential + charge)) c.args.i c.in-Some.position c.in-Some.charge
    (get_or c.args.outcomes.now c.in-Some.position default) c.pays_into.result
    pair (slice_get-get_or c.args.outcomes.now c.in-Some.position default less) c.pays_into.ensures
