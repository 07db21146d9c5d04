-- Names tell themselves apart.
use Rattle.std.proofs.Common.{◌≡◌, ◌<◌, Some, sym, ◌∙◌, ap, arith, below_more}
use Rattle.std.proofs.lemmas.Bool.{false≢true}
use Rattle.arm_text.specs.Names.{register_name}
use Rattle.arm_text.proofs.Distinct.{one_register_of}
use Rattle.arm_text.proofs.parts.read_register.Goals as goal

pub returns-then-is-clause-complete : goal.returns-then-is-clause-complete
returns-then-is-clause-complete c k below same =
    let at : c.loop-register.register < 16 = omega (arith, c.loop-register-test.true) in
    let here : c.args.text.now ≡ register_name c.loop-register.register = c.is.ensures.0 c.if-is.true ∙ c.register_name.ensures in
    ap Some (one_register_of c.loop-register.register k at below (sym here ∙ same))

pub loop-register-preserved : goal.loop-register-preserved
loop-register-preserved c = below_more (λ k. c.args.text.now ≡ register_name k → ⊥) c.loop-register.register (λ k h same. c.loop-register.invariant k h same)
    (λ same. false≢true (sym c.if-is.false ∙ c.is.ensures.1 (same ∙ sym c.register_name.ensures)))

pub returns-clause-complete : goal.returns-clause-complete
returns-clause-complete c k below same = absurd (c.loop-register.invariant k (omega (arith, c.loop-register-test.false)) same)
