-- Elements of lists by their places, and numbers in lists.
use Rattle.std.proofs.Common.{◌≡◌, ℕ, zero, suc, ◌<◌, List, [], ◌∷◌, length, map, get_or, slice_get, refl, sym, ap, subst, ◌∙◌, inl, inr, arith, ◌==◌}
use Rattle.std.specs.Prelude.{◌⊎◌, All, AllPairs, Contains, Some, option_map, IsTrue}
use Rattle.std.proofs.lemmas.Bool.{cases_order, eqb-true, eq-eqb}
use Rattle.std.proofs.lemmas.List.Folds.{Any-from_list_any, list_any_at}
use Rattle.std.proofs.lemmas.Option.{same_Some, slice_get_within, slice_get-get_or, get_or_from_slice_get, slice_get-map}
use Rattle.path_graph.specs.Graph.{has}

module _ {X : Type 0} where
  -- an element that stands at a place, if the list is that long
  pub element : (xs : List X) (k : ℕ) → k < length xs → (x : X) × (slice_get xs k ≡ Some x)
  element [] k less = absurd (omega arith)
  element (x ∷ xs) zero less = (x, refl)
  element (x ∷ xs) (suc k) less = element xs k (omega arith)

  pub listed : (xs : List X) (k : ℕ) (x : X) → slice_get xs k ≡ Some x → Contains xs x
  listed xs k x e = (k, slice_get_within xs k x e, get_or_from_slice_get xs k x x e)

  pub stands_at : (xs : List X) (x : X) (c : Contains xs x) → slice_get xs c.0 ≡ Some x
  stands_at xs x c = slice_get-get_or xs c.0 x c.1 ∙ ap Some c.2

  pub one_element : (xs : List X) (k : ℕ) (x y : X) → slice_get xs k ≡ Some x → slice_get xs k ≡ Some y → x ≡ y
  one_element xs k x y e f = same_Some x y (sym e ∙ f)

  pub all_of : (P : X → Type 0) (xs : List X) → ((x : X) → Contains xs x → P x) → All P xs
  all_of P xs each i x less =
      let y : X = get_or xs i x in
      each y (i, less, get_or_from_slice_get xs i y y (slice_get-get_or xs i x less))

  pub paired : (R : X → X → Type 0) (xs : List X) (i j : ℕ) (x y : X) → AllPairs R xs → i < j
      → slice_get xs i ≡ Some x → slice_get xs j ≡ Some y → R x y
  paired R xs i j x y pairs less e f =
      subst (λ (b : X). R x b) (get_or_from_slice_get xs j y x f)
      (subst (λ (a : X). R a (get_or xs j x)) (get_or_from_slice_get xs i x x e)
      (pairs i j x less (slice_get_within xs j y f)))

  -- in a list whose elements stand in an order that none stands in with itself, each has one place
  pub one_place : (R : X → X → Type 0) (xs : List X) (i j : ℕ) (x : X) → AllPairs R xs → (R x x → ⊥)
      → slice_get xs i ≡ Some x → slice_get xs j ≡ Some x → i ≡ j
  one_place R xs i j x pairs apart e f = elim (cases_order i j) [
    | inl same ↦ same
    | inr (inl less) ↦ absurd (apart (paired R xs i j x x pairs less e f))
    | inr (inr more) ↦ absurd (apart (paired R xs j i x x pairs more f e))
  ]

-- an element of a list that was made of another
module _ {X Y : Type 0} (f : X → Y) where
  pub mapped : (xs : List X) (k : ℕ) (x : X) → slice_get xs k ≡ Some x → slice_get (map f xs) k ≡ Some (f x)
  mapped xs k x e = slice_get-map f xs k ∙ ap (option_map f) e

  pub contains_mapped : (xs : List X) (x : X) → Contains xs x → Contains (map f xs) (f x)
  contains_mapped xs x c = listed (map f xs) c.0 (f x) (mapped xs c.0 x (stands_at xs x c))

-- ---- numbers in lists

pub contains_of : (xs : List ℕ) (v : ℕ) → IsTrue (has xs v) → Contains xs v
contains_of xs v h =
    let any = Any-from_list_any (λ m. m == v) xs h in
    (any.0, any.2, subst (λ (w : ℕ). get_or xs any.0 w ≡ w) (eqb-true any.1 v any.4) any.3)

pub has_of : (xs : List ℕ) (v : ℕ) → Contains xs v → IsTrue (has xs v)
has_of xs v c = list_any_at (λ m. m == v) xs c.0 v c.1 (eq-eqb (get_or xs c.0 v) v c.2)

pub front_or_rest : (x : ℕ) (xs : List ℕ) (y : ℕ) → Contains (x ∷ xs) y → (y ≡ x) ⊎ Contains xs y
front_or_rest x xs y (zero, less, e) = inl (sym e)
front_or_rest x xs y (suc k, less, e) = inr (k, omega arith, e)
