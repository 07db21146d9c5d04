-- Finite sums: over the elements of a list, and over elements with their places.
use Rattle.std.proofs.Common.{◌≡◌, ℕ, zero, suc, ◌+◌, ◌*◌, ◌≤◌, Bool, true, false, cond, List, [], ◌∷◌, slice_get, sum_by, refl, ap, subst, ◌∙◌, arith}
use Rattle.std.specs.Prelude.{Some}
use Rattle.std.proofs.lemmas.Option.{none-some, same_Some}
use Rattle.std.proofs.lemmas.List.Sums.{sum_by-cons}
use Rattle.cert_rules.specs.Prices.{sum_places}

-- 1 where a test holds
unfoldable pub bit : Bool → ℕ
bit true = 1
bit false = 0

pub bit_is : (b : Bool) → cond {A = ℕ} b 1 0 ≡ bit b
unfolding bit
bit_is true = refl
bit_is false = refl

-- an amount that is paid where a test holds
pub paid_if : (b : Bool) (amount : ℕ) → cond b amount 0 ≡ amount * bit b
unfolding bit
paid_if true amount = omega arith
paid_if false amount = omega arith

-- the sum of what the elements are worth
abbrev pub sum_of : {A : Type 0} → (A → ℕ) → List A → ℕ
sum_of worth [] = 0
sum_of worth (x ∷ xs) = worth x + sum_of worth xs

module _ {A : Type 0} where
  pub as_sum : (f : A → ℕ) (xs : List A) → sum_by f xs ≡ sum_of f xs
  as_sum f [] = refl
  as_sum f (x ∷ xs) = sum_by-cons f x xs ∙ ap (λ n. f x + n) (as_sum f xs)

  pub sum_same : (f g : A → ℕ) (xs : List A) → ((x : A) → f x ≡ g x) → sum_of f xs ≡ sum_of g xs
  sum_same f g [] same = refl
  sum_same f g (x ∷ xs) same = omega (arith, same x, sum_same f g xs same)

  pub sum_zero : (f : A → ℕ) (xs : List A) → ((x : A) → f x ≡ 0) → sum_of f xs ≡ 0
  sum_zero f [] none = refl
  sum_zero f (x ∷ xs) none = omega (arith, none x, sum_zero f xs none)

  pub sum_add : (f g : A → ℕ) (xs : List A) → sum_of (λ x. f x + g x) xs ≡ sum_of f xs + sum_of g xs
  sum_add f g [] = omega arith
  sum_add f g (x ∷ xs) = let rest = sum_add f g xs in omega arith

  -- what is true of each element with its place, where the list begins at a place
  abbrev pub AllPlaces : (ℕ → A → Type 0) → ℕ → List A → Type 0
  AllPlaces P n [] = Unit {0}
  AllPlaces P n (x ∷ xs) = P n x × AllPlaces P (n + 1) xs

  pub all_from : (P : ℕ → A → Type 0) (n : ℕ) (xs : List A) → ((i j : ℕ) (x : A) → j ≡ n + i → slice_get xs i ≡ Some x → P j x)
      → AllPlaces P n xs
  all_from P n [] each = tt
  all_from P n (x ∷ xs) each =
      (each 0 n x (omega arith) refl, all_from P (n + 1) xs (λ i j y at stands. each (suc i) j y (omega arith) stands))

  pub all_places : (P : ℕ → A → Type 0) (xs : List A) → ((i : ℕ) (x : A) → slice_get xs i ≡ Some x → P i x) → AllPlaces P 0 xs
  all_places P xs each = all_from P 0 xs (λ i j x at stands. let e : i ≡ j = omega arith in subst (λ k. P k x) e (each i x stands))

  pub places_same : (f g : ℕ → A → ℕ) (n : ℕ) (xs : List A) → ((i : ℕ) (x : A) → f i x ≡ g i x) → sum_places f n xs ≡ sum_places g n xs
  places_same f g n [] same = refl
  places_same f g n (x ∷ xs) same = omega (arith, same n x, places_same f g (n + 1) xs same)

  pub places_le : (f g : ℕ → A → ℕ) (n : ℕ) (xs : List A) → AllPlaces (λ i x. f i x ≤ g i x) n xs → sum_places f n xs ≤ sum_places g n xs
  places_le f g n [] each = omega arith
  places_le f g n (x ∷ xs) each = let rest = places_le f g (n + 1) xs each.1 in let one = each.0 in omega arith

  pub places_zero : (f : ℕ → A → ℕ) (n : ℕ) (xs : List A) → ((i : ℕ) (x : A) → f i x ≡ 0) → sum_places f n xs ≡ 0
  places_zero f n [] none = refl
  places_zero f n (x ∷ xs) none = omega (arith, none n x, places_zero f (n + 1) xs none)

  pub places_add : (f g : ℕ → A → ℕ) (n : ℕ) (xs : List A)
      → sum_places (λ i x. f i x + g i x) n xs ≡ sum_places f n xs + sum_places g n xs
  places_add f g n [] = omega arith
  places_add f g n (x ∷ xs) = let rest = places_add f g (n + 1) xs in omega arith

  pub places_times : (m : ℕ) (f : ℕ → A → ℕ) (n : ℕ) (xs : List A) → sum_places (λ i x. m * f i x) n xs ≡ m * sum_places f n xs
  places_times m f n [] = omega arith
  places_times m f n (x ∷ xs) = let rest = places_times m f (n + 1) xs in omega arith

  -- each element's worth is part of the sum
  pub one_place : (f : ℕ → A → ℕ) (n i j : ℕ) (xs : List A) (x : A) → j ≡ n + i → slice_get xs i ≡ Some x → f j x ≤ sum_places f n xs
  one_place f n i j [] x at stands = absurd (none-some x stands)
  one_place f n zero j (y ∷ xs) x at stands =
      let here : n ≡ j = omega arith in
      let e : f n y ≡ f j x = ap (λ k. f k y) here ∙ ap (f j) (same_Some y x stands) in
      omega arith
  one_place f n (suc i) j (y ∷ xs) x at stands = let rest = one_place f (n + 1) i j xs x (omega arith) stands in omega arith
