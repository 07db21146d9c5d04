-- Lists with one element replaced.
use Rattle.std.proofs.Common.{◌≡◌, ℕ, zero, suc, ◌<◌, List, [], ◌∷◌, length, get_or, set, Some, ◌⊎◌, inl, inr, refl, sym, ap, ◌∙◌, arith}
use Rattle.std.proofs.lemmas.List.Sums.{sum_by-set}
use Rattle.std.proofs.lemmas.Option.{same_Some, get_or_from_slice_get, slice_get_within}
use Rattle.std.proofs.lemmas.List.{with_items_is}
use Rattle.std.specs.Global.{Vec}
use Rattle.std.specs.Vec.{with_items}
use Rattle.std.specs.List.{slice_get, sum_by}

module _ {X : Type 0} where
  pub set_cases : (xs : List X) (to n : ℕ) (y z : X) → to < length xs → slice_get (set xs to y) n ≡ Some z
      → ((n ≡ to) × (y ≡ z)) ⊎ (slice_get xs n ≡ Some z)
  set_cases [] to n y z h e = absurd (omega arith)
  set_cases (x ∷ xs) zero zero y z h e = inl (refl, same_Some y z e)
  set_cases (x ∷ xs) zero (suc n) y z h e = inr e
  set_cases (x ∷ xs) (suc to) zero y z h e = inr e
  set_cases (x ∷ xs) (suc to) (suc n) y z h e = elim (set_cases xs to n y z (omega arith) e) [
    | inl p ↦ inl (ap suc p.0, p.1)
    | inr q ↦ inr q
  ]

  pub set_itself : (xs : List X) (to : ℕ) (x : X) → slice_get xs to ≡ Some x → set xs to x ≡ xs
  set_itself [] to x e = refl
  set_itself (y ∷ xs) zero x e = ap (λ (z : X). z ∷ xs) (sym (same_Some y x e))
  set_itself (y ∷ xs) (suc to) x e = ap (λ (zs : List X). y ∷ zs) (set_itself xs to x e)

  pub set_lowers : (f : X → ℕ) (xs : List X) (to : ℕ) (x y : X) → slice_get xs to ≡ Some x → f y < f x → sum_by f (set xs to y) < sum_by f xs
  set_lowers f xs to x y e lt =
      omega (arith, sum_by-set f xs to y x (slice_get_within xs to x e), ap f (get_or_from_slice_get xs to x x e))

-- a Vec whose items were all written
pub written : {X : Type 0} (v : Vec X) (new : List X) → length new ≡ length v.items → (with_items v new).items ≡ new
written v new same = with_items_is v new (same ∙ sym v.ok.0)
