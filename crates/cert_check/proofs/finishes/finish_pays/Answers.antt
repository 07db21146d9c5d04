use Rattle.std.proofs.Common.{IsTrue, ◌↔◌}
use Rattle.std.specs.Prelude.{Decides}
use Rattle.cert_judge.specs.Offers.{offered}
use Rattle.cert_judge.specs.Payments.{PaysForFinish}
use Rattle.cert_check.specs.Judging.{VectorPaysFinish}
use Rattle.cert_check.proofs.PayLemmas.{decides, finish_complete, finish_sound}
use Rattle.cert_check.proofs.ResultLemmas.{ok_more}
use Rattle.cert_check.proofs.finishes.finish_pays.Goals as goal

pub pays_finish-requires-clause-finish : goal.pays_finish-requires-clause-finish
pays_finish-requires-clause-finish c = c.requires.finish.diagram.within

pub pays_finish-requires-clause-charged : goal.pays_finish-requires-clause-charged
pays_finish-requires-clause-charged c = rw (c.offer_at.ensures.classes, c.offer_at.ensures.charged) c.requires.site.diagram

pub returns-clause-pays : goal.returns-clause-pays
returns-clause-pays c =
    let s = c.args.subject.now in
    let u = s.unfolded.now in
    let m = s.machine.now in
    let w = c.args.site.now in
    let v = c.args.v.now in
    let nodes = c.args.table.now in
    let told = rw (c.offer_at.ensures.classes, c.offer_at.ensures.charged, c.offer_at.ensures.potential) at c.pays_finish.ensures.pays in
    let Pays = PaysForFinish nodes w.classes.now (offered nodes w.charged v.potential) c.args.end.place in
    let Rule = VectorPaysFinish u m s.classes.now s.certificate.now w.node v in
    ok_more c.pays_finish.result (λ b. IsTrue b ↔ Pays) (λ b. Decides b Rule)
    (λ b is. decides b Pays Rule
    (finish_sound nodes u m s.classes.now s.certificate.now w.node w.classes.now w.charged c.requires.site v c.args.end.place (λ block f of. c.requires.finish.each block f of))
    (finish_complete nodes u m s.classes.now s.certificate.now w.node w.classes.now w.charged c.requires.site v c.args.end.place (λ block f of. c.requires.finish.each block f of)) is)
    told
