-- Which refusal a broken rule gives.
use Rattle.std.proofs.Common.{◌≡◌, Bool, false, Result, Ok, Err, IfErr, sym, subst, ◌∙◌}
use Rattle.std.specs.Prelude.{Decides}
use Rattle.std.specs.Result.{IsErr, IsErrAnd}
use Rattle.std.proofs.lemmas.Bool.{false≢true}
use Rattle.wx_base.specs.declared.machine.Machine.{Machine}
use Rattle.flow_ctx.specs.declared.unfolded.Unfolded.{Unfolded}
use Rattle.cache_class.specs.declared.class.Classes.{Classes}
use Rattle.cert_text.specs.declared.certificate.Certificate.{Certificate}
use Rattle.cert_rules.specs.Rules.{HasBound, HasShape, HasSmallNumbers, HasStart, PaysEdges, PaysFinish}
use Rattle.cert_rules.specs.Judged.{HoldsForAll, shape, numbers, start, bound}
use Rattle.cert_check.specs.declared.refused.Refused.{Refused}
use Rattle.cert_check.specs.declared.refused.Refused.TheVariants.{Rejected}
use Rattle.cert_check.specs.Judging.{Breaks}

-- what a test denies does not hold
pub denied : (b : Bool) (P : Type 0) → Decides b P → b ≡ false → P → ⊥
denied b P d broken p = false≢true (sym broken ∙ d.1 p)

-- what is said of an error is said of the answer that hands it on
pub handed_on : {T E : Type 0} (P : E → Type 0) (r : Result T E) (e : E) → IsErr r × IsErrAnd r (λ x. x ≡ e) → P e → IfErr r P
handed_on P (Ok x) e is p = tt
handed_on P (Err x) e is p = subst P (sym is.1) p

-- what is said of an error follows for another property
pub err_more : {T E : Type 0} (r : Result T E) (P Q : E → Type 0) → ((e : E) → P e → Q e) → IfErr r P → IfErr r Q
err_more (Ok x) P Q more p = tt
err_more (Err e) P Q more p = more e p

-- the rules that speak of the whole certificate
module _ (u : Unfolded) (m : Machine) (classes : Classes) (c : Certificate) (r : Refused) where
  pub shape_breaks : r ≡ Rejected 0 0 0 → (HasShape u classes c → ⊥) → Breaks u m classes c r
  shape_breaks is broken = subst (λ x. Breaks u m classes c x) (sym is) (shape broken)

  pub numbers_break : r ≡ Rejected 4 0 0 → HasShape u classes c → (HasSmallNumbers c → ⊥) → Breaks u m classes c r
  numbers_break is has broken = subst (λ x. Breaks u m classes c x) (sym is) (numbers has broken)

  pub start_breaks : r ≡ Rejected 1 0 0 → HasShape u classes c → HasSmallNumbers c → (HasStart u c → ⊥) → Breaks u m classes c r
  start_breaks is has small broken = subst (λ x. Breaks u m classes c x) (sym is) (start has small broken)

  pub bound_breaks : r ≡ Rejected 5 0 0 → HasShape u classes c → HasSmallNumbers c → HasStart u c → HoldsForAll (PaysFinish u m classes c)
      → HoldsForAll (PaysEdges u m classes c) → (HasBound u c → ⊥) → Breaks u m classes c r
  bound_breaks is has small starts ends edges broken = subst (λ x. Breaks u m classes c x) (sym is) (bound has small starts ends edges broken)
