use Rattle.std.proofs.Common.{ℕ, ◌<◌, ◌∙◌, sym, subst, arith}
use Rattle.std.specs.Prelude.{pos}
use Rattle.path_problem.specs.Net.{link_at}
use Rattle.std.proofs.lemmas.Int.{ints}
use Rattle.path_problem.proofs.NetLemmas.{skip, take_value, still, falls, same_round, given}
use Rattle.path_problem.proofs.net.relax.Goals.{then-value-values+else-value-gt-LIMIT, else-value-values}
use Rattle.path_problem.proofs.net.relax.Goals as goal

pub loop-number-preserved : goal.loop-number-preserved
loop-number-preserved c =
    let x = given c.args.links.now _ c.args.price c.loop-number.number c.loop-number.values c.candidate-value.result c.requires.links (sym c.loop-number.invariant.count) c.loop-number.invariant.within c.loop-number-test.true c.candidate-value.ensures in
    let same = x.same in
    let low = x.low in
    let high = x.high in
    let from = (link_at c.args.links.now c.loop-number.number).from in
    let before = c.loop-number.invariant.within from (pos 0) (subst (λ (n : ℕ). from < n) (sym c.loop-number.invariant.count) (c.requires.links.from c.loop-number.number c.loop-number-test.true)) in
    let below = before.low in
    elim c.if-value-values.branch [
      | then-value-values+else-value-gt-LIMIT w ↦
          same_round w.values-is w.next-is w.changed-is (take_value _ _ c.loop-number.number _ _ _ _ _ c.loop-number.invariant c.requires.links c.loop-number-test.true _ (same ∙ c.candidate-value.ensures) (omega (arith, ints)) (omega (arith, ints)) (record { low = omega (arith, ints); high = omega (arith, ints) }))
      | else-value-values w ↦ same_round w.values-is w.next-is w.changed-is (skip _ _ c.loop-number.number _ _ _ _ _ c.loop-number.invariant (omega (arith, ints, c.candidate-value.ensures)))
    ]

pub returns-then-value-gt-LIMIT-clause-labels : goal.returns-then-value-gt-LIMIT-clause-labels
returns-then-value-gt-LIMIT-clause-labels c =
    let x = given c.args.links.now _ c.args.price c.loop-number.number c.loop-number.values c.candidate-value.result c.requires.links (sym c.loop-number.invariant.count) c.loop-number.invariant.within c.loop-number-test.true c.candidate-value.ensures in
    let same = x.same in
    let high = x.high in
    still _ _ c.loop-number.number _ _ _ _ _ c.loop-number.invariant c.requires.links c.loop-number-test.true _ (same ∙ c.candidate-value.ensures) (omega (arith, ints)) (omega (arith, ints))

pub returns-then-value-gt-LIMIT-clause-less : goal.returns-then-value-gt-LIMIT-clause-less
returns-then-value-gt-LIMIT-clause-less c = λ _.
    let x = given c.args.links.now _ c.args.price c.loop-number.number c.loop-number.values c.candidate-value.result c.requires.links (sym c.loop-number.invariant.count) c.loop-number.invariant.within c.loop-number-test.true c.candidate-value.ensures in
    let same = x.same in
    let high = x.high in
    falls _ _ c.loop-number.number _ _ _ _ _ c.loop-number.invariant c.requires.links c.loop-number-test.true _ (same ∙ c.candidate-value.ensures) (omega (arith, ints)) (omega (arith, ints))
