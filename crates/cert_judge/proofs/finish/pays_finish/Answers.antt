use Rattle.std.proofs.Common.{◌+◌, ◌↔◌, ◌-◌, ◌≤◌, Bool, IsTrue, arith}
use Rattle.xdd_table.specs.Diagram.{Combination, time}
use Rattle.cert_judge.specs.Payments.{PaysForFinish}
use Rattle.cert_judge.proofs.KeepLemmas.{keeps_twice}
use Rattle.cert_judge.proofs.PaymentLemmas.{finish_pays, ok_more}
use Rattle.cert_judge.proofs.finish.pays_finish.Goals as goal

pub is_within-requires-clause-second : goal.is_within-requires-clause-second
is_within-requires-clause-second c = let k = c.settle.ensures.kept.grows in omega (arith, c.requires.charged.within, k)

pub returns-clause-pays : goal.returns-clause-pays
returns-clause-pays c =
    let nodes = c.settle.new.table in
    let old = c.args.table.now in
    let o = c.args.offer.now in
    ok_more c.is_within.result (λ (w : Bool). IsTrue w ↔ ((f : Combination) → time nodes f c.in_ok-needed.needed.place - time nodes f o.charged.place ≤ o.potential))
    (λ (w : Bool). IsTrue w ↔ PaysForFinish old o.classes.now (λ f. o.potential + time old f o.charged.place) c.args.finish.place)
    (λ w tells. finish_pays old o.classes.now (λ f. time old f o.charged.place) o.potential c.args.finish.place
    (λ f. time nodes f c.in_ok-needed.needed.place) (λ f. time nodes f o.charged.place) w
    c.requires.charged.alike (λ f. c.in_ok-needed.ensures.times f) (λ f. c.settle.ensures.kept.times f o.charged.place c.requires.charged.within) tells)
    c.is_within.ensures.within

pub returns-clause-kept : goal.returns-clause-kept
returns-clause-kept c = keeps_twice c.args.table.now c.settle.new.table c.is_within.new.table c.settle.ensures.kept c.is_within.ensures.kept
