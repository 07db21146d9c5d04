-- How many different numbers a list has, and which stand before one of them.
use Rattle.std.proofs.Common.{◌≡◌, ℕ, zero, suc, ◌<◌, ◌≤◌, Bool, true, false, cond, List, [], ◌∷◌, length, take, inl, inr, sym, ap, subst, ◌∙◌, arith, eqb}
use Rattle.std.proofs.lemmas.Bool.{cases_Bool, eqb-true, eqb-false, ne_eqb, or_parts, or_cases, or_left, or_right, false≢true, true≢false}
use Rattle.std.proofs.lemmas.Map.Keys.{IsDistinct-head, IsDistinct-tail}
use Rattle.std.specs.List.{AllByRecursion, filter, IsDistinct}
use Rattle.cache_ages.specs.Bounds.{is_one_of}
use Rattle.cache_ages.proofs.Places.{without, without-apart}

-- another number is not missed by taking one out
pub one_of_without : (xs : List ℕ) (x y : ℕ) → (y ≡ x → ⊥) → is_one_of xs y ≡ true → is_one_of (without x xs) y ≡ true
one_of_without [] x y ne h = h
one_of_without (z ∷ xs) x y ne h = elim (cases_Bool (eqb z x)) [
  | inl e ↦
      let apart : eqb z y ≡ false = ne_eqb z y (λ same. ne (sym same ∙ eqb-true z x e)) in
      let rest : is_one_of xs y ≡ true = rw apart at h in
      rw e (one_of_without xs x y ne rest)
  | inr e ↦ elim (or_cases (eqb z y) (is_one_of xs y) h) [
    | inl here ↦ rw e (or_left (eqb z y) (is_one_of (without x xs) y) here)
    | inr rest ↦ rw e (or_right (eqb z y) (is_one_of (without x xs) y) (one_of_without xs x y ne rest))
  ]
]

-- a number that passes the test is kept
pub one_of_filter : (test : ℕ → Bool) (xs : List ℕ) (y : ℕ) → test y ≡ true → is_one_of xs y ≡ true → is_one_of (filter test xs) y ≡ true
one_of_filter test [] y t h = h
one_of_filter test (z ∷ xs) y t h = elim (cases_Bool (test z)) [
  | inl e ↦ rw e (elim (or_cases (eqb z y) (is_one_of xs y) h) [
    | inl here ↦ or_left (eqb z y) (is_one_of (filter test xs) y) here
    | inr rest ↦ or_right (eqb z y) (is_one_of (filter test xs) y) (one_of_filter test xs y t rest)
  ])
  | inr e ↦ rw e (elim (or_cases (eqb z y) (is_one_of xs y) h) [
    | inl here ↦ absurd (true≢false (sym t ∙ ap test (sym (eqb-true z y here)) ∙ e))
    | inr rest ↦ one_of_filter test xs y t rest
  ])
]

no_longer : (xs : List ℕ) (x : ℕ) → length (without x xs) ≤ length xs
no_longer [] x = omega arith
no_longer (z ∷ xs) x = elim (cases_Bool (eqb z x)) [
  | inl e ↦ rw e (omega (arith, no_longer xs x))
  | inr e ↦ rw e (omega (arith, no_longer xs x))
]

-- taking out one that is there makes a list shorter
pub shorter : (xs : List ℕ) (x : ℕ) → is_one_of xs x ≡ true → length (without x xs) < length xs
shorter [] x h = absurd (false≢true h)
shorter (z ∷ xs) x h = elim (cases_Bool (eqb z x)) [
  | inl e ↦ rw e (omega (arith, no_longer xs x))
  | inr e ↦
      let rest : is_one_of xs x ≡ true = rw e at h in
      rw e (omega (arith, shorter xs x rest))
]

-- taking one out of different numbers makes the list shorter by one at most
pub little_shorter : (xs : List ℕ) (x : ℕ) → IsDistinct eqb xs → length xs ≤ suc (length (without x xs))
little_shorter [] x d = omega arith
little_shorter (z ∷ xs) x d = elim (cases_Bool (eqb z x)) [
  | inl e ↦
      let P : ℕ → Type 0 = λ y. AllByRecursion (λ w. eqb y w ≡ false) xs in
      let rest : without x xs ≡ xs = without-apart xs x (subst P (eqb-true z x e) (IsDistinct-head eqb z xs d)) in
      rw (e, rest) (omega arith)
  | inr e ↦ rw e (omega (arith, little_shorter xs x (IsDistinct-tail eqb z xs d)))
]

rest_in : (xs zs : List ℕ) (x : ℕ) → AllByRecursion (λ y. eqb x y ≡ false) xs → AllByRecursion (λ y. is_one_of zs y ≡ true) xs → AllByRecursion (λ y. is_one_of (without x zs) y ≡ true) xs
rest_in [] zs x apart all = tt
rest_in (y ∷ xs) zs x apart all = (one_of_without zs x y (λ same. eqb-false x y apart.0 (sym same)) all.0, rest_in xs zs x apart.1 all.1)

-- different numbers of a list are no more than it has
pub fit_in : (xs zs : List ℕ) → IsDistinct eqb xs → AllByRecursion (λ x. is_one_of zs x ≡ true) xs → length xs ≤ length zs
fit_in [] zs d all = omega arith
fit_in (x ∷ xs) zs d all =
    omega (arith, shorter zs x all.0, fit_in xs (without x zs) (IsDistinct-tail eqb x xs d) (rest_in xs zs x (IsDistinct-head eqb x xs d) all.1))

-- ---- the numbers before one

-- the numbers of a list before the first place of one; all where it is not there
abbrev pub before : ℕ → List ℕ → List ℕ
before line [] = []
before line (x ∷ xs) = cond (eqb x line) [] (x ∷ before line xs)

module _ (P : ℕ → Type 0) (line : ℕ) where
  pub before-take : (n : ℕ) (xs : List ℕ) → AllByRecursion P (before line xs) → AllByRecursion P (before line (take n xs))
  before-take zero xs all = tt
  before-take (suc n) [] all = tt
  before-take (suc n) (x ∷ xs) all = elim (cases_Bool (eqb x line)) [
    | inl e ↦ rw e tt
    | inr e ↦ let both : AllByRecursion P (x ∷ before line xs) = rw e at all in rw e (both.0, before-take n xs both.1)
  ]

  pub before-without : (x : ℕ) (xs : List ℕ) → (line ≡ x → ⊥) → AllByRecursion P (before line xs) → AllByRecursion P (before line (without x xs))
  before-without x [] ne all = tt
  before-without x (z ∷ xs) ne all = elim (cases_Bool (eqb z line)) [
    | inl e ↦
        let apart : eqb z x ≡ false = ne_eqb z x (λ same. ne (sym (eqb-true z line e) ∙ same)) in
        rw (apart, e) tt
    | inr e ↦
        let both : AllByRecursion P (z ∷ before line xs) = rw e at all in
        elim (cases_Bool (eqb z x)) [
          | inl out ↦ rw out (before-without x xs ne both.1)
          | inr stays ↦ rw (stays, e) (both.0, before-without x xs ne both.1)
        ]
  ]

  pub before-none : (xs : List ℕ) → is_one_of xs line ≡ false → AllByRecursion P (before line xs) → AllByRecursion P xs
  before-none [] h all = tt
  before-none (x ∷ xs) h all =
      let p = or_parts (eqb x line) (is_one_of xs line) h in
      let both : AllByRecursion P (x ∷ before line xs) = rw p.0 at all in
      (both.0, before-none xs p.1 both.1)

pub weaker : (P Q : ℕ → Type 0) → ((x : ℕ) → P x → Q x) → (xs : List ℕ) → AllByRecursion P xs → AllByRecursion Q xs
weaker P Q f [] all = tt
weaker P Q f (x ∷ xs) all = (f x all.0, weaker P Q f xs all.1)
