-- Sums over lists and over the numbers below a bound.
use Rattle.std.proofs.Common.{◌≡◌, ℕ, zero, suc, ◌+◌, ◌*◌, ◌<◌, ◌≤◌, Bool, true, false, cond, List, [], ◌∷◌, length, get_or, map, refl, arith}
use Rattle.std.proofs.Common.{inl, inr}
use Rattle.std.proofs.lemmas.Bool.{cases_eq}
use Rattle.std.specs.List.{All, sum_by, zip}
use Rattle.std.proofs.lemmas.List.Sums.{sum_by-cons}
use Rattle.std.proofs.lemmas.List.Folds.{fold-map}
use Rattle.std.proofs.lemmas.List.Elements.{All-head, All-tail, All-nil, All-cons}

-- 1 or 0
abbrev pub bit : Bool → ℕ
bit b = cond b 1 0

module _ {X : Type 0} where
  pub sum_by-both : (f g h : X → ℕ) → ((x : X) → h x ≡ f x + g x) → (xs : List X) → sum_by h xs ≡ sum_by f xs + sum_by g xs
  sum_by-both f g h e [] = refl
  sum_by-both f g h e (x ∷ xs) =
      let rest = sum_by-both f g h e xs in
      let here = e x in
      let l = sum_by-cons h x xs in
      let m = sum_by-cons f x xs in
      let r = sum_by-cons g x xs in
      omega arith

  pub sum_by-less : (f g : X → ℕ) → (xs : List X) → All (λ x. f x ≤ g x) xs → sum_by f xs ≤ sum_by g xs
  sum_by-less f g [] h = omega arith
  sum_by-less f g (x ∷ xs) h =
      let rest = sum_by-less f g xs (All-tail (λ y. f y ≤ g y) x xs h) in
      let here = All-head (λ y. f y ≤ g y) x xs h in
      let l = sum_by-cons f x xs in
      let m = sum_by-cons g x xs in
      omega arith

  pub sum_by-same : (f g : X → ℕ) → (xs : List X) → All (λ x. f x ≡ g x) xs → sum_by f xs ≡ sum_by g xs
  sum_by-same f g [] h = refl
  sum_by-same f g (x ∷ xs) h =
      let rest = sum_by-same f g xs (All-tail (λ y. f y ≡ g y) x xs h) in
      let here = All-head (λ y. f y ≡ g y) x xs h in
      let l = sum_by-cons f x xs in
      let m = sum_by-cons g x xs in
      omega arith

  pub sum_by-none : (f : X → ℕ) → ((x : X) → f x ≡ 0) → (xs : List X) → sum_by f xs ≡ 0
  sum_by-none f e [] = refl
  sum_by-none f e (x ∷ xs) =
      let rest = sum_by-none f e xs in
      let here = e x in
      let l = sum_by-cons f x xs in
      omega arith

  pub sum_by-map : {Y : Type 0} (f : X → ℕ) (h : Y → X) (ys : List Y) → sum_by f (map h ys) ≡ sum_by (λ y. f (h y)) ys
  sum_by-map f h ys = fold-map (λ a x. a + f x) h 0 ys

-- a sum over the numbers below a bound
abbrev pub sum_below : ℕ → (ℕ → ℕ) → ℕ
sum_below zero f = 0
sum_below (suc n) f = f 0 + sum_below n (λ k. f (suc k))

pub sum_below-both : (n : ℕ) (f g h : ℕ → ℕ) → ((k : ℕ) → h k ≡ f k + g k) → sum_below n h ≡ sum_below n f + sum_below n g
sum_below-both zero f g h e = refl
sum_below-both (suc n) f g h e =
    let rest = sum_below-both n (λ k. f (suc k)) (λ k. g (suc k)) (λ k. h (suc k)) (λ k. e (suc k)) in
    let here = e 0 in
    omega arith

pub sum_below-none : (n : ℕ) (f : ℕ → ℕ) → ((k : ℕ) → f k ≡ 0) → sum_below n f ≡ 0
sum_below-none zero f e = refl
sum_below-none (suc n) f e =
    let rest = sum_below-none n (λ k. f (suc k)) (λ k. e (suc k)) in
    let here = e 0 in
    omega arith

pub sum_below-less : (n : ℕ) (f g : ℕ → ℕ) → ((k : ℕ) → k < n → f k ≤ g k) → sum_below n f ≤ sum_below n g
sum_below-less zero f g h = omega arith
sum_below-less (suc n) f g h =
    let rest = sum_below-less n (λ k. f (suc k)) (λ k. g (suc k)) (λ k b. h (suc k) (omega arith)) in
    let here = h 0 (omega arith) in
    omega arith

-- only one term of a sum is not 0
pub sum_below-one : (n : ℕ) (f : ℕ → ℕ) (j : ℕ) → j < n → ((k : ℕ) → (k ≡ j → ⊥) → f k ≡ 0) → sum_below n f ≡ f j
sum_below-one zero f j h e = absurd (omega arith)
sum_below-one (suc n) f zero h e =
    let rest = sum_below-none n (λ k. f (suc k)) (λ k. e (suc k) (λ q. omega arith)) in
    omega arith
sum_below-one (suc n) f (suc j) h e =
    let rest = sum_below-one n (λ k. f (suc k)) j (omega arith) (λ k q. e (suc k) (λ r. q (omega arith))) in
    let here = e 0 (λ r. omega arith) in
    omega arith

-- the sum of the products of two lists
pub products_below : (xs ys : List ℕ) → length xs ≡ length ys → sum_by (λ (x, y). x * y) (zip xs ys) ≡ sum_below (length xs) (λ k. get_or xs k 0 * get_or ys k 0)
products_below [] ys h = refl
products_below (x ∷ xs) [] h = absurd (omega arith)
products_below (x ∷ xs) (y ∷ ys) h =
    let rest = products_below xs ys (omega arith) in
    let l = sum_by-cons (λ (p : ℕ × ℕ). p.0 * p.1) (x, y) (zip xs ys) in
    omega arith

-- a fact at each place of two lists is one on their pairs
pub All-zip : {A B : Type 0} (P : A → B → Type 0) (d : A) (e : B) (xs : List A) (ys : List B) → length ys ≡ length xs → ((i : ℕ) → i < length xs → P (get_or xs i d) (get_or ys i e)) → All (λ q. P q.0 q.1) (zip xs ys)
All-zip P d e [] ys h f = All-nil (λ q. P q.0 q.1)
All-zip P d e (x ∷ xs) [] h f = absurd (omega arith)
All-zip P d e (x ∷ xs) (y ∷ ys) h f =
    All-cons (λ q. P q.0 q.1) (x, y) (zip xs ys) (f 0 (omega arith)) (All-zip P d e xs ys (omega arith) (λ i b. f (suc i) (omega arith)))
