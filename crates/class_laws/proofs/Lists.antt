-- Places in lists, and the first elements of a list.
use Rattle.std.proofs.Common.{◌≡◌, ℕ, zero, suc, List, [], ◌∷◌, ◌++◌, length, take, reverse, get_or, slice_get, ◌==◌, ◌⊎◌, refl, sym, ap, ◌∙◌, subst, inl, inr}
use Rattle.std.specs.Prelude.{Contains, Some}
use Rattle.std.specs.List.{list_any}
use Rattle.std.proofs.lemmas.Bool.{cases_Bool, eq-eqb, eqb-true, false≢true}
use Rattle.std.proofs.lemmas.List.{reverse-append}
use Rattle.std.proofs.lemmas.List.Folds.{Any-from_list_any, list_any_at}
use Rattle.std.proofs.lemmas.Option.{none-some, same_Some, slice_get_within, get_or_from_slice_get}

module _ {X : Type 0} where
  pub listed : (xs : List X) (k : ℕ) (x : X) → slice_get xs k ≡ Some x → Contains xs x
  listed xs k x e = (k, slice_get_within xs k x e, get_or_from_slice_get xs k x x e)

  pub one_element : (xs : List X) (k : ℕ) (x y : X) → slice_get xs k ≡ Some x → slice_get xs k ≡ Some y → x ≡ y
  one_element xs k x y e f = same_Some x y (sym e ∙ f)

  pub heads : (x y : X) (xs ys : List X) → x ∷ xs ≡ y ∷ ys → x ≡ y
  heads x y xs ys e = same_Some x y (ap (λ l. slice_get l 0) e)

  -- the element behind a list in front
  pub at_seam : (xs : List X) (y : X) (ys : List X) → slice_get (xs ++ y ∷ ys) (length xs) ≡ Some y
  at_seam [] y ys = refl
  at_seam (x ∷ xs) y ys = at_seam xs y ys

  pub take_seam : (xs ys : List X) → take (length xs) (xs ++ ys) ≡ xs
  take_seam [] ys = refl
  take_seam (x ∷ xs) ys = ap (λ (l : List X). x ∷ l) (take_seam xs ys)

  pub take_more : (xs : List X) (k : ℕ) (x : X) → slice_get xs k ≡ Some x → take (suc k) xs ≡ take k xs ++ x ∷ []
  take_more [] k x e = absurd (none-some x e)
  take_more (y ∷ ys) zero x e = ap (λ (z : X). z ∷ []) (same_Some y x e)
  take_more (y ∷ ys) (suc k) x e = ap (λ (l : List X). y ∷ l) (take_more ys k x e)

  pub reverse_more : (xs : List X) (k : ℕ) (x : X) → slice_get xs k ≡ Some x → reverse (take (suc k) xs) ≡ x ∷ reverse (take k xs)
  reverse_more xs k x e = ap reverse (take_more xs k x e) ∙ reverse-append (take k xs) (x ∷ [])

  -- an element of two lists is one of the first, or one of the second
  pub data IsInEither (xs ys : List X) (k : ℕ) (x : X) : Type 0 where
    in_first : slice_get xs k ≡ Some x → IsInEither xs ys k x
    in_second : (j : ℕ) → slice_get ys j ≡ Some x → IsInEither xs ys k x

  pub in_either : (xs ys : List X) (k : ℕ) (x : X) → slice_get (xs ++ ys) k ≡ Some x → IsInEither xs ys k x
  in_either [] ys k x e = in_second k e
  in_either (z ∷ xs) ys zero x e = in_first e
  in_either (z ∷ xs) ys (suc k) x e = elim (in_either xs ys k x e) [
    | in_first f ↦ in_first f
    | in_second j f ↦ in_second j f
  ]

-- whether a number is in a list can be told
pub listed_or_not : (xs : List ℕ) (x : ℕ) → Contains xs x ⊎ (Contains xs x → ⊥)
listed_or_not xs x = elim (cases_Bool (list_any (λ y. y == x) xs)) [
  | inl e ↦
      let any = Any-from_list_any (λ y. y == x) xs e in
      let c : Contains xs any.1 = (any.0, any.2, any.3) in
      inl (subst (λ y. Contains xs y) (eqb-true any.1 x any.4) c)
  | inr e ↦ inr (λ c. false≢true (sym e ∙ list_any_at (λ y. y == x) xs c.0 x c.1 (eq-eqb (get_or xs c.0 x) x c.2)))
]
