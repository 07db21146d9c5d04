-- Elements of lists with their places.
use Rattle.std.proofs.Common.{◌≡◌, ℕ, zero, suc, ◌+◌, ◌<◌, ◌≤◌, Bool, true, false, List, [], ◌∷◌, length, slice_get, refl, sym, ap, subst, ◌∙◌, inl, inr, arith}
use Rattle.std.specs.Prelude.{AllPairs, Contains, Option, Some, None, filter_map}
use Rattle.std.specs.List.{cons_option}
use Rattle.std.proofs.lemmas.Bool.{cases_Bool, false≢true}
use Rattle.std.proofs.lemmas.Option.{slice_get_within, get_or_from_slice_get}
use Rattle.cert_rules.specs.Prices.{sum_places}
use Rattle.bound_laws.proofs.Sums.{bit}

module _ {A : Type 0} where
  pub listed : (xs : List A) (k : ℕ) (x : A) → slice_get xs k ≡ Some x → Contains xs x
  listed xs k x e = (k, slice_get_within xs k x e, get_or_from_slice_get xs k x x e)

  pub in_rest : (y : A) (xs : List A) (x : A) → Contains xs x → Contains (y ∷ xs) x
  in_rest y xs x c = (suc c.0, (let l : suc c.0 < length (y ∷ xs) = omega (arith, c.1) in l), c.2)

  pub in_front : (x : A) (xs : List A) → Contains (x ∷ xs) x
  in_front x xs = (0, (let l : 0 < length (x ∷ xs) = omega arith in l), refl)

  -- what an element of a list is: the first, or one of the others
  pub data Stands (y : A) (xs : List A) (x : A) : Type 0 where
    first : y ≡ x → Stands y xs x
    other : Contains xs x → Stands y xs x

  pub stands_in : (y : A) (xs : List A) (x : A) → Contains (y ∷ xs) x → Stands y xs x
  stands_in y xs x (zero, less, is) = first is
  stands_in y xs x (suc k, less, is) = other (k, (let l : k < length xs = omega (arith, less) in l), is)

  -- where the keys of a list ascend and a test passes elements of one key alone, it passes one at most
  module _ (key : A → ℕ) (test : A → Bool) (k : ℕ) where
    none_passes : (test_value : Bool) → (test_value ≡ true → ⊥) → bit test_value ≡ 0
    unfolding bit
    none_passes true never = absurd (never refl)
    none_passes false never = refl

    one_passes : (test_value : Bool) → bit test_value ≤ 1
    unfolding bit
    one_passes true = omega arith
    one_passes false = omega arith

    after : (n : ℕ) (x : A) (xs : List A) → key x ≡ k → ((y : A) → Contains xs y → key x < key y) → ((y : A) → Contains xs y → test y ≡ true → key y ≡ k)
        → sum_places (λ i y. bit (test y)) n xs ≡ 0
    after n x [] is greater passes = refl
    after n x (y ∷ xs) is greater passes =
        let never : bit (test y) ≡ 0 = none_passes (test y) (λ t. let e = passes y (in_front y xs) t in let less = greater y (in_front y xs) in absurd (omega arith)) in
        let rest = after (n + 1) x xs is (λ z c. greater z (in_rest y xs z c)) (λ z c. passes z (in_rest y xs z c)) in
        omega arith

    -- the keys of all elements are greater than those of the elements before them
    abbrev pub Rises : List A → Type 0
    Rises [] = Unit {0}
    Rises (x ∷ xs) = ((y : A) → Contains xs y → key x < key y) × Rises xs

    pub at_most_one : (n : ℕ) (xs : List A) → Rises xs → ((y : A) → Contains xs y → test y ≡ true → key y ≡ k) → sum_places (λ i y. bit (test y)) n xs ≤ 1
    at_most_one n [] rises passes = omega arith
    at_most_one n (x ∷ xs) rises passes = elim (cases_Bool (test x)) [
      | inl holds ↦
          let one = one_passes (test x) in
          let rest = after (n + 1) x xs (passes x (in_front x xs) holds) rises.0 (λ y c. passes y (in_rest x xs y c)) in
          omega arith
      | inr fails ↦
          let none = none_passes (test x) (λ t. false≢true (sym fails ∙ t)) in
          let rest = at_most_one (n + 1) xs rises.1 (λ y c. passes y (in_rest x xs y c)) in
          omega arith
    ]

  pub rises : (key : A → ℕ) (test : A → Bool) (k : ℕ) (xs : List A) → AllPairs (λ x y. key x < key y) xs → Rises key test k xs
  rises key test k [] pairs = tt
  rises key test k (x ∷ xs) pairs = (
    (λ y c. subst (λ z. key x < key z) c.2 (pairs 0 (suc c.0) y (omega arith) (let l : suc c.0 < length (x ∷ xs) = omega (arith, c.1) in l))),
    rises key test k xs (λ i j d less within. pairs (suc i) (suc j) d (omega arith) (let l : suc j < length (x ∷ xs) = omega arith in l)),
  )

-- what a list was made of by a function that may give nothing: nothing, or a first element that an element of the list gave
pub data Made {A B : Type 0} (h : A → Option B) (xs : List A) : List B → Type 0 where
  nothing : ((x : A) → Contains xs x → h x ≡ None) → Made h xs []
  something : (x : A) (y : B) (ys : List B) → Contains xs x → h x ≡ Some y → Made h xs (y ∷ ys)

module _ {A B : Type 0} (h : A → Option B) where
  more : (x : A) (xs : List A) (o : Option B) (ys : List B) → h x ≡ o → Made h xs ys → Made h (x ∷ xs) (cons_option o ys)
  more x xs None [] is (nothing none) = nothing (λ z c. from z (stands_in x xs z c))
    where
      from : (z : A) → Stands x xs z → h z ≡ None
      from z (first same) = ap h (sym same) ∙ is
      from z (other c) = none z c
  more x xs None (y ∷ ys) is (something z _ _ c e) = something z y ys (in_rest x xs z c) e
  more x xs (Some y) ys is made = something x y ys (in_front x xs) is

  pub made : (xs : List A) → Made h xs (filter_map h xs)
  made [] = nothing (λ x c. absurd (omega (arith, c.1)))
  made (x ∷ xs) = more x xs (h x) (filter_map h xs) refl (made xs)
