use Rattle.std.proofs.Common.{IsTrue, ◌↔◌}
use Rattle.std.specs.Prelude.{Decides}
use Rattle.cert_judge.specs.Offers.{offered}
use Rattle.cert_judge.specs.Payments.{PaysForEdge, PaysInto}
use Rattle.cert_check.specs.Judging.{VectorPaysEdge}
use Rattle.cert_check.proofs.PayLemmas.{decides, edge_complete, edge_sound, listed_by, place_diagram}
use Rattle.cert_check.proofs.ResultLemmas.{ok_more}
use Rattle.cert_check.proofs.edges.edge_pays.Goals as goal

pub crossing_at-crossing-requires-clause-edge : goal.crossing_at-crossing-requires-clause-edge
crossing_at-crossing-requires-clause-edge c = c.edge_at-edge.ensures

pub pays_edge-requires-clause-within : goal.pays_edge-requires-clause-within
pays_edge-requires-clause-within c =
    let s = c.args.subject.now in
    let edge = c.edge_at-edge.result.now in
    (place_diagram c.args.table.now s.unfolded.now s.machine.now c.args.site.now.node c.args.v.now.slots edge.taken c.args.leaving.now (c.requires.leaving edge c.edge_at-edge.ensures)).within

pub pays_edge-requires-clause-listed : goal.pays_edge-requires-clause-listed
pays_edge-requires-clause-listed c =
    let s = c.args.subject.now in
    let edge = c.edge_at-edge.result.now in
    let site = c.requires.site in
    listed_by c.args.table.now s.unfolded.now s.machine.now c.args.site.now.node c.args.v.now.slots edge.taken c.args.leaving.now site.block site.is.is (c.requires.leaving edge c.edge_at-edge.ensures)

pub pays_edge-requires-clause-charged : goal.pays_edge-requires-clause-charged
pays_edge-requires-clause-charged c = rw (c.offer_at.ensures.classes, c.offer_at.ensures.charged) c.requires.site.diagram

pub returns-clause-pays : goal.returns-clause-pays
returns-clause-pays c =
    let s = c.args.subject.now in
    let u = s.unfolded.now in
    let w = c.args.site.now in
    let v = c.args.v.now in
    let edge = c.edge_at-edge.result.now in
    let k = c.crossing_at-crossing.result in
    let told = rw (c.offer_at.ensures.classes, c.offer_at.ensures.charged, c.offer_at.ensures.potential) at c.pays_edge.ensures.pays in
    let leaving = c.args.leaving.now in
    let nodes = c.args.table.now in
    let from = c.requires.from edge c.edge_at-edge.ensures in
    let leaves = c.requires.leaving edge c.edge_at-edge.ensures in
    let Pays = PaysForEdge nodes w.classes.now (offered nodes w.charged v.potential) leaving (PaysInto k.family.now k.entering k.returning) in
    let Rule = VectorPaysEdge u s.machine.now s.classes.now s.certificate.now v c.args.number in
    ok_more c.pays_edge.result (λ b. IsTrue b ↔ Pays) (λ b. Decides b Rule)
    (λ b is. decides b Pays Rule
    (edge_sound nodes u s.machine.now s.classes.now s.certificate.now w.node w.classes.now w.charged c.requires.site v c.args.number edge k.family.now k.entering k.returning leaving
    c.edge_at-edge.ensures from c.crossing_at-crossing.ensures.family c.crossing_at-crossing.ensures.entering c.crossing_at-crossing.ensures.returning leaves)
    (edge_complete nodes u s.machine.now s.classes.now s.certificate.now w.node w.classes.now w.charged c.requires.site v c.args.number edge k.family.now k.entering k.returning leaving
    c.edge_at-edge.ensures from c.crossing_at-crossing.ensures.family c.crossing_at-crossing.ensures.entering c.crossing_at-crossing.ensures.returning leaves) is)
    told
