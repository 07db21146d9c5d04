-- Sums over the elements of a list with their places, and sums of which at most one part is not 0.
use Rattle.std.proofs.Common.{◌≡◌, ℕ, zero, suc, ◌+◌, ◌<◌, List, [], ◌∷◌, ◌++◌, length, take, get_or, slice_get, Some, refl, sym, ap, subst, ◌∙◌, arith}
use Rattle.std.specs.List.{sum_by}
use Rattle.std.proofs.lemmas.List.{take_more}
use Rattle.std.proofs.lemmas.List.Sums.{sum_by-cons}
use Rattle.std.proofs.lemmas.Option.{same_Some, slice_get_within}
use Rattle.cert_rules.specs.Prices.{sum_places}

shifted : (place k : ℕ) → place + suc k ≡ (place + 1) + k
shifted place k = omega arith

unmoved : (place : ℕ) → place ≡ place + 0
unmoved place = omega arith

module _ {A : Type 0} (worth : ℕ → A → ℕ) where
  pub sum_places-push : (place : ℕ) (xs : List A) (y : A) → sum_places worth place (xs ++ y ∷ []) ≡ sum_places worth place xs + worth (place + length xs) y
  sum_places-push place [] y = let e : place ≡ place + 0 = omega arith in subst (λ n. worth place y + 0 ≡ 0 + worth n y) e (omega arith)
  sum_places-push place (x ∷ xs) y =
      let e : (place + 1) + length xs ≡ place + suc (length xs) = omega arith in
      let rest : sum_places worth (place + 1) (xs ++ y ∷ []) ≡ sum_places worth (place + 1) xs + worth (place + suc (length xs)) y
      = subst (λ n. sum_places worth (place + 1) (xs ++ y ∷ []) ≡ sum_places worth (place + 1) xs + worth n y) e (sum_places-push (place + 1) xs y) in
      omega (arith, rest)

  pub sum_places-more : (place : ℕ) (xs : List A) (i : ℕ) (d : A) → i < length xs
      → sum_places worth place (take (i + 1) xs) ≡ sum_places worth place (take i xs) + worth (place + length (take i xs)) (get_or xs i d)
  sum_places-more place xs i d h = ap (sum_places worth place) (take_more xs i d h) ∙ sum_places-push place (take i xs) (get_or xs i d)

  -- a sum of which each part is 0
  pub sum_places-none : (place : ℕ) (xs : List A) → ((k : ℕ) (x : A) → slice_get xs k ≡ Some x → worth (place + k) x ≡ 0)
      → sum_places worth place xs ≡ 0
  sum_places-none place [] h = refl
  sum_places-none place (x ∷ xs) h =
      let first : worth place x ≡ 0 = ap (λ n. worth n x) (omega arith) ∙ h 0 x refl in
      let rest = sum_places-none (place + 1) xs (λ k y e. ap (λ n. worth n y) (omega arith) ∙ h (suc k) y e) in
      omega (arith, first, rest)

  -- a sum of which only the part at one place may not be 0
  pub sum_places-one : (place : ℕ) (xs : List A) (i : ℕ) (y : A) → slice_get xs i ≡ Some y
      → ((k : ℕ) (x : A) → slice_get xs k ≡ Some x → (k ≡ i → ⊥) → worth (place + k) x ≡ 0) → sum_places worth place xs ≡ worth (place + i) y
  sum_places-one place [] i y at h = absurd (omega (arith, slice_get_within [] i y at))
  sum_places-one place (x ∷ xs) zero y at h =
      let rest = sum_places-none (place + 1) xs
      (λ k z f. subst (λ n. worth n z ≡ 0) (shifted place k) (h (suc k) z f (λ g. absurd (omega (arith, g))))) in
      let same : worth place x ≡ worth (place + 0) y = subst (λ z. worth place x ≡ worth (place + 0) z) (same_Some x y at) (subst (λ n. worth place x ≡ worth n x) (unmoved place) refl) in
      omega (arith, rest, same)
  sum_places-one place (x ∷ xs) (suc i) y at h =
      let first : worth place x ≡ 0 = subst (λ n. worth n x ≡ 0) (sym (unmoved place)) (h 0 x refl (λ g. absurd (omega (arith, g)))) in
      let rest : sum_places worth (place + 1) xs ≡ worth (place + suc i) y
      = subst (λ n. sum_places worth (place + 1) xs ≡ worth n y) (sym (shifted place i))
      (sum_places-one (place + 1) xs i y at (λ k z f no. subst (λ n. worth n z ≡ 0) (shifted place k) (h (suc k) z f (λ g. no (omega (arith, g)))))) in
      omega (arith, first, rest)

-- sums whose parts are the same
pub sum_places-same : {A : Type 0} (v w : ℕ → A → ℕ) (place : ℕ) (xs : List A)
    → ((k : ℕ) (x : A) → slice_get xs k ≡ Some x → v (place + k) x ≡ w (place + k) x) → sum_places v place xs ≡ sum_places w place xs
sum_places-same v w place [] h = refl
sum_places-same v w place (x ∷ xs) h =
    let first : v place x ≡ w place x = ap (λ n. v n x) (omega arith) ∙ h 0 x refl ∙ ap (λ n. w n x) (omega arith) in
    let rest = sum_places-same v w (place + 1) xs
    (λ k y e. ap (λ n. v n y) (omega arith) ∙ h (suc k) y e ∙ ap (λ n. w n y) (omega arith)) in
    omega (arith, first, rest)

from_zero : (k : ℕ) → k ≡ 0 + k
from_zero k = omega arith

-- the same from the first place on
pub sum_places-equal : {A : Type 0} (v w : ℕ → A → ℕ) (xs : List A) → ((k : ℕ) (x : A) → slice_get xs k ≡ Some x → v k x ≡ w k x)
    → sum_places v 0 xs ≡ sum_places w 0 xs
sum_places-equal v w xs h = sum_places-same v w 0 xs (λ k x e. subst (λ n. v n x ≡ w n x) (from_zero k) (h k x e))

-- a sum of which each part is 0
pub sum_by-none : {A : Type 0} (f : A → ℕ) (xs : List A) → ((k : ℕ) (x : A) → slice_get xs k ≡ Some x → f x ≡ 0) → sum_by f xs ≡ 0
sum_by-none f [] h = refl
sum_by-none f (x ∷ xs) h =
    let first = h 0 x refl in
    let rest = sum_by-none f xs (λ k y e. h (suc k) y e) in
    sum_by-cons f x xs ∙ omega (arith, first, rest)

-- a sum of which only the part at one place may not be 0
pub sum_by-one : {A : Type 0} (f : A → ℕ) (xs : List A) (i : ℕ) (y : A) → slice_get xs i ≡ Some y
    → ((k : ℕ) (x : A) → slice_get xs k ≡ Some x → (k ≡ i → ⊥) → f x ≡ 0) → sum_by f xs ≡ f y
sum_by-one f [] i y at h = absurd (omega (arith, slice_get_within [] i y at))
sum_by-one f (x ∷ xs) zero y at h =
    let rest = sum_by-none f xs (λ k z e. h (suc k) z e (λ e. absurd (omega (arith, e)))) in
    sum_by-cons f x xs ∙ omega (arith, rest) ∙ ap f (same_Some x y at)
sum_by-one f (x ∷ xs) (suc i) y at h =
    let first = h 0 x refl (λ e. absurd (omega (arith, e))) in
    let rest = sum_by-one f xs i y at (λ k z e no. h (suc k) z e (λ e. no (omega (arith, e)))) in
    sum_by-cons f x xs ∙ omega (arith, first) ∙ rest
