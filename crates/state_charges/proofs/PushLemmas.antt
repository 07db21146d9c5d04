-- Lists with one element more at their end.
use Rattle.std.proofs.Common.{◌≡◌, ℕ, zero, suc, List, [], ◌∷◌, ◌++◌, length, slice_get, Some, refl, ap, inl, inr, arith}
use Rattle.std.specs.Prelude.{◌⊎◌}
use Rattle.std.proofs.lemmas.Option.{same_Some, slice_get_within}

module _ {A : Type 0} where
  pub before_push : (xs : List A) (y : A) (k : ℕ) (x : A) → slice_get xs k ≡ Some x → slice_get (xs ++ y ∷ []) k ≡ Some x
  before_push [] y k x e = absurd (omega (arith, slice_get_within [] k x e))
  before_push (z ∷ xs) y zero x e = e
  before_push (z ∷ xs) y (suc k) x e = before_push xs y k x e

  pub at_push : (xs : List A) (y : A) → slice_get (xs ++ y ∷ []) (length xs) ≡ Some y
  at_push [] y = refl
  at_push (z ∷ xs) y = at_push xs y

  -- an element of the longer list is one of the shorter or the last
  pub of_push : (xs : List A) (y : A) (k : ℕ) (x : A) → slice_get (xs ++ y ∷ []) k ≡ Some x → (slice_get xs k ≡ Some x) ⊎ ((k ≡ length xs) × (y ≡ x))
  of_push [] y zero x e = inr (refl, same_Some y x e)
  of_push [] y (suc k) x e = absurd (omega (arith, slice_get_within [] k x e))
  of_push (z ∷ xs) y zero x e = inl e
  of_push (z ∷ xs) y (suc k) x e = elim (of_push xs y k x e) [
    | inl there ↦ inl there
    | inr last ↦ inr (ap suc last.0, last.1)
  ]
