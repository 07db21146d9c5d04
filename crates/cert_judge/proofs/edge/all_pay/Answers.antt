use Rattle.std.proofs.Common.{ℕ, ◌+◌, List, refl, sym, ◌∙◌, arith}
use Rattle.std.proofs.lemmas.Bool.{false≢true}
use Rattle.cert_judge.specs.Payments.{PaysInto, PairPays}
use Rattle.cert_judge.proofs.PaymentLemmas.{all_from, one_more_pays}
use Rattle.cert_judge.proofs.edge.all_pay.Goals as goal

pub loop-i-preserved : goal.loop-i-preserved
loop-i-preserved c =
    let k = c.args.crossing.now in
    let Pays : ℕ → ℕ → List ℕ → Type 0 = λ charge. PaysInto k.family.now k.entering k.returning (c.args.potential + charge) in
    one_more_pays (λ i. PairPays c.args.pairs.now c.args.outcomes.now Pays i) c.loop-i.i
    c.loop-i.invariant (c.pair_pays.ensures.0 c.if-not-pair_pays.false)

pub returns-then-not-pair_pays : goal.returns-then-not-pair_pays
returns-then-not-pair_pays c = (λ told. absurd (false≢true told), λ all. sym c.if-not-pair_pays.true ∙ c.pair_pays.ensures.1 (all.each c.loop-i.i))

pub returns : goal.returns
returns c =
    let k = c.args.crossing.now in
    let all = all_from c.args.pairs.now c.args.outcomes.now (λ charge. PaysInto k.family.now k.entering k.returning (c.args.potential + charge))
    (λ i less. c.loop-i.invariant i (omega arith)) in
    (λ told. all, λ pays. refl)
