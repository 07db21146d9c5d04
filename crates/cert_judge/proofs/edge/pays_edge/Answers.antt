use Rattle.std.proofs.Common.{arith}
use Rattle.xdd_table.specs.Diagram.{time}
use Rattle.xdd_ops.specs.Pairs.{IsPairOf}
use Rattle.cert_judge.specs.Payments.{PaysInto}
use Rattle.cert_judge.proofs.KeepLemmas.{keeps_twice}
use Rattle.cert_judge.proofs.PaymentLemmas.{listed, edge_pays, added_to_none}
use Rattle.cert_judge.proofs.edge.pays_edge.Goals as goal

pub zip-requires-clause-second : goal.zip-requires-clause-second
zip-requires-clause-second c = let k = c.settle.ensures.kept.grows in omega (arith, c.requires.charged.within, k)

pub all_pay-requires-clause-listed : goal.all_pay-requires-clause-listed
all_pay-requires-clause-listed c =
    let nodes = c.settle.new.table in
    let old = c.args.table.now in
    let o = c.args.offer.now in
    rw c.as_slice-outcomes.ensures
    (listed old o.classes.now (λ f. time old f o.charged.place) c.args.leaving.now c.zip.new.pairs
    (λ f. time nodes f c.in_ok-place.place.place) (λ f. time nodes f o.charged.place)
    (λ f. c.in_ok-place.ensures.times f) (λ f. c.settle.ensures.kept.times f o.charged.place c.requires.charged.within)
    (added_to_none c.new-pairs.result c.zip.new.pairs (IsPairOf nodes c.in_ok-place.place.place o.charged.place) c.new-pairs.ensures c.zip.ensures.only)
    c.requires.listed)

pub returns-clause-pays : goal.returns-clause-pays
returns-clause-pays c =
    let nodes = c.settle.new.table in
    let old = c.args.table.now in
    let o = c.args.offer.now in
    let k = c.args.crossing.now in
    edge_pays old o.classes.now (λ f. time old f o.charged.place) c.args.leaving.now c.zip.new.pairs
    (λ f. time nodes f c.in_ok-place.place.place) (λ f. time nodes f o.charged.place)
    (λ f. c.in_ok-place.ensures.times f) (λ f. c.settle.ensures.kept.times f o.charged.place c.requires.charged.within)
    (added_to_none c.new-pairs.result c.zip.new.pairs (IsPairOf nodes c.in_ok-place.place.place o.charged.place) c.new-pairs.ensures c.zip.ensures.only)
    c.all_pay.result o.potential (PaysInto k.family.now k.entering k.returning) c.requires.charged.alike
    (λ f. (time c.zip.new.table f c.in_ok-zip.field-0.place, c.in_ok-zip.ensures.times f))
    (rw c.as_slice-outcomes.ensures at c.all_pay.ensures)

pub returns-in_err-zip-clause-kept : goal.returns-in_err-zip-clause-kept
returns-in_err-zip-clause-kept c = keeps_twice c.args.table.now c.settle.new.table c.zip.new.table c.settle.ensures.kept c.zip.ensures.kept

pub returns-clause-kept : goal.returns-clause-kept
returns-clause-kept c = keeps_twice c.args.table.now c.settle.new.table c.zip.new.table c.settle.ensures.kept c.zip.ensures.kept
