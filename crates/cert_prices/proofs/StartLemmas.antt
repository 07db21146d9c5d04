-- The first vector of the start's family, and the bound by it.
use Rattle.std.proofs.Common.{◌≡◌, ℕ, zero, suc, ◌+◌, Bool, false, List, [], ◌∷◌, replicate, slice_get, slice_index, Option, Some, None, Bor, is_some, refl, sym, ap, subst, ◌∙◌, arith, inl, inr, Decides}
use Rattle.std.specs.Option.{MatchOption, option_copied}
use Rattle.std.proofs.lemmas.Bool.{false≢true, cases_lt}
use Rattle.std.proofs.lemmas.Option.{none-some, same_Some}
use Rattle.flow_ctx.specs.declared.unfolded.Unfolded.{Unfolded}
use Rattle.wx_base.specs.Vector.{slot_count}
use Rattle.cert_text.specs.declared.certificate.Certificate.{Certificate}
use Rattle.cert_text.specs.declared.certificate.CertVector.{CertVector}
use Rattle.cert_rules.specs.Prices.{paid_at_start}
use Rattle.cert_rules.specs.Rules.{HasBound, HasStart, IsFirstCovering, IsListed}

empty : {A : Type 0} (xs : List A) → None ≡ slice_get xs 0 → (k : ℕ) (x : A) → slice_get xs k ≡ Some x → ⊥
empty [] e k x f = none-some x f
empty (y ∷ xs) e k x f = none-some y e

zeros : (n k : ℕ) → slice_index (replicate n 0) k ≡ 0
zeros zero k = refl
zeros (suc n) zero = refl
zeros (suc n) (suc k) = zeros n k

-- the first vector of the family covers the empty pipeline, if there is one
pub covering : (u : Unfolded) (c : Certificate) (family : List CertVector) (o : Option (Bor CertVector)) → slice_get c.families u.start ≡ Some family
    → option_copied o ≡ slice_get family 0 → MatchOption o (HasStart u c → ⊥) (λ v. IsFirstCovering u c v.now)
covering u c family None stands is = λ h.
    let same : family ≡ h.listed.family = same_Some family h.listed.family (sym stands ∙ h.listed.stands) in
    empty family is h.place h.vector (ap (λ (vs : List CertVector). slice_get vs h.place) same ∙ h.listed.listed)
covering u c family (Some v) stands is = record {
  place = 0;
  listed = record { family = family; stands = stands; listed = sym is };
  covers = record { each = λ k. let z = zeros slot_count k in omega (arith, z) };
  first = λ earlier w less listed covers. omega (arith, less);
}

-- whether there is one
pub told_start : (u : Unfolded) (c : Certificate) (o : Option (Bor CertVector)) → MatchOption o (HasStart u c → ⊥) (λ v. IsFirstCovering u c v.now)
    → Decides (is_some o) (HasStart u c)
told_start u c None never = (λ e. absurd (false≢true e), λ h. absurd (never h))
told_start u c (Some v) is = (λ e. record { place = is.place; vector = v.now; listed = is.listed; covers = is.covers }, λ h. refl)

-- a place of a family has one vector
one_listed : (c : Certificate) (node place : ℕ) (v w : CertVector) → IsListed c node place v → IsListed c node place w → v ≡ w
one_listed c node place v w a b =
    let same : a.family ≡ b.family = same_Some a.family b.family (sym a.stands ∙ b.stands) in
    same_Some v w (sym a.listed ∙ ap (λ (vs : List CertVector). slice_get vs place) same ∙ b.listed)

-- the first vector that covers is one
one_first : (u : Unfolded) (c : Certificate) (v w : CertVector) → IsFirstCovering u c v → IsFirstCovering u c w → v ≡ w
one_first u c v w a b = elim (cases_lt a.place b.place) [
  | inl less ↦ absurd (b.first a.place v less a.listed a.covers)
  | inr more ↦ elim (cases_lt b.place a.place) [
    | inl less ↦ absurd (a.first b.place w less b.listed b.covers)
    | inr same ↦
        let e : b.place ≡ a.place = omega (arith, more, same) in
        one_listed c u.start a.place v w a.listed (subst (λ n. IsListed c u.start n w) e b.listed)
  ]
]

-- the bound is that of the first vector
pub told_bound : (u : Unfolded) (c : Certificate) (v : CertVector) (paid : ℕ) (answer : Bool) → IsFirstCovering u c v → paid ≡ paid_at_start c u
    → Decides answer (c.bound ≡ v.potential + paid) → Decides answer (HasBound u c)
told_bound u c v paid answer first is told = (
  λ e. record { vector = v; first = first; is = told.0 e ∙ ap (λ n. v.potential + n) is },
  λ h. told.1 (h.is ∙ ap (λ (w : CertVector). w.potential + paid_at_start c u) (one_first u c h.vector v h.first first) ∙ ap (λ n. v.potential + n) (sym is)),
)

-- where no vector covers there is none
pub no_bound : (u : Unfolded) (c : Certificate) → (HasStart u c → ⊥) → Decides false (HasBound u c)
no_bound u c never = (λ e. absurd (false≢true e), λ h. absurd (never (record { place = h.first.place; vector = h.vector; listed = h.first.listed; covers = h.first.covers })))
