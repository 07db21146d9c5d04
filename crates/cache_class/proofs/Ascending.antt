-- Ascending lists of the same elements are one.
use Rattle.std.proofs.Common.{◌≡◌, ℕ, zero, suc, ◌<◌, ◌⊎◌, List, [], ◌∷◌, length, get_or, refl, sym, ◌∙◌, subst, inl, inr, arith}
use Rattle.std.specs.List.{AllPairs, Contains}
use Rattle.wx_base.specs.Facts.{AreAscending}

at_first : {X : Type 0} (y : X) (ys : List X) (x : X) (k : ℕ) → k < length (y ∷ ys) → get_or (y ∷ ys) k x ≡ x → (y ≡ x) ⊎ Contains ys x
at_first y ys x zero h e = inl e
at_first y ys x (suc k) h e = inr (k, omega arith, e)

pub first_or_later : {X : Type 0} (y : X) (ys : List X) (x : X) → Contains (y ∷ ys) x → (y ≡ x) ⊎ Contains ys x
first_or_later y ys x c = at_first y ys x c.0 c.1 c.2

module _ {X : Type 0} (before : X → X → Type 0) (through : (x y z : X) → before x y → before y z → before x z) (apart : (x y : X) → x ≡ y → before x y → ⊥) where
  -- the first is before each later one
  first_before : (y : X) (ys : List X) (x : X) → AllPairs before (y ∷ ys) → Contains ys x → before y x
  first_before y ys x up c = subst (λ (z : X). before y z) c.2 (up 0 (suc c.0) x (omega arith) (omega (arith, c.1)))

  tail_up : (y : X) (ys : List X) → AllPairs before (y ∷ ys) → AllPairs before ys
  tail_up y ys up i j d less h = up (suc i) (suc j) d (omega arith) (omega arith)

  rest_in : (x y : X) (xs ys : List X) → x ≡ y → AllPairs before (x ∷ xs) → ((z : X) → Contains (x ∷ xs) z → Contains (y ∷ ys) z) → (z : X) → Contains xs z → Contains ys z
  rest_in x y xs ys e up all z c = elim (first_or_later y ys z (all z (suc c.0, omega (arith, c.1), c.2))) [
    | inl s ↦ absurd (apart x z (e ∙ s) (first_before x xs z up c))
    | inr k ↦ k
  ]

  -- ascending lists of the same elements are one
  pub one_list : (xs ys : List X) → AllPairs before xs → AllPairs before ys → ((z : X) → Contains xs z → Contains ys z) → ((z : X) → Contains ys z → Contains xs z) → xs ≡ ys
  one_list [] [] a b there back = refl
  one_list [] (y ∷ ys) a b there back = let c = back y (0, omega arith, refl) in absurd (omega (arith, c.1))
  one_list (x ∷ xs) [] a b there back = let c = there x (0, omega arith, refl) in absurd (omega (arith, c.1))
  one_list (x ∷ xs) (y ∷ ys) a b there back =
      let e : x ≡ y = elim (first_or_later y ys x (there x (0, omega arith, refl))) [
        | inl s ↦ sym s
        | inr c ↦ elim (first_or_later x xs y (back y (0, omega arith, refl))) [
          | inl s ↦ s
          | inr d ↦ absurd (apart x x refl (through x y x (first_before x xs y a d) (first_before y ys x b c)))
        ]
      ] in
      let rest = one_list xs ys (tail_up x xs a) (tail_up y ys b) (rest_in x y xs ys e a there) (rest_in y x ys xs (sym e) b back) in
      λ i. e i ∷ rest i

pub numbers_one : (xs ys : List ℕ) → AreAscending xs → AreAscending ys → ((n : ℕ) → Contains xs n → Contains ys n) → ((n : ℕ) → Contains ys n → Contains xs n) → xs ≡ ys
numbers_one = one_list (λ x y. x < y) (λ x y z h k. omega (arith, h, k)) (λ x y e h. omega (arith, e, h))
