-- Names tell themselves apart.
use Rattle.std.proofs.Common.{◌≡◌, ◌<◌, Some, sym, ◌∙◌, ap, arith, below_more}
use Rattle.std.proofs.lemmas.Bool.{false≢true}
use Rattle.arm_text.specs.Names.{condition_suffix}
use Rattle.arm_text.proofs.Distinct.{one_condition_of}
use Rattle.arm_text.proofs.parts.read_condition.Goals as goal

pub returns-then-is-clause-complete : goal.returns-then-is-clause-complete
returns-then-is-clause-complete c k below same =
    let at : c.loop-cond.cond < 14 = omega (arith, c.loop-cond-test.true) in
    let here : c.args.text.now ≡ condition_suffix c.loop-cond.cond = c.is.ensures.0 c.if-is.true ∙ c.condition_suffix.ensures in
    ap Some (one_condition_of c.loop-cond.cond k at below (sym here ∙ same))

pub loop-cond-preserved : goal.loop-cond-preserved
loop-cond-preserved c = below_more (λ k. c.args.text.now ≡ condition_suffix k → ⊥) c.loop-cond.cond (λ k h same. c.loop-cond.invariant k h same)
    (λ same. false≢true (sym c.if-is.false ∙ c.is.ensures.1 (same ∙ sym c.condition_suffix.ensures)))

pub returns-clause-complete : goal.returns-clause-complete
returns-clause-complete c k below same = absurd (c.loop-cond.invariant k (omega (arith, c.loop-cond-test.false)) same)
