-- Elements of lists of numbers.
use Rattle.std.proofs.Common.{◌≡◌, ℕ, zero, suc, ◌<◌, ◌≤◌, ◌⊎◌, Bool, true, false, cond, eqb, List, [], ◌∷◌, length, get_or, take, nat_eq, refl, sym, ap, subst, ◌∙◌, inl, inr, arith}
use Rattle.std.specs.List.{AllByRecursion, Contains, IsDistinct, filter, list_any}
use Rattle.std.proofs.lemmas.Bool.{cases_Bool, eq-eqb, eqb-true, false≢true}
use Rattle.std.proofs.lemmas.Cmp.{nat_eq_equiv}
use Rattle.std.proofs.lemmas.List.Folds.{Any-from_list_any, list_any_at}
use Rattle.std.proofs.lemmas.Map.Keys.{IsDistinct-cons, IsDistinct-from_apart, IsDistinct-head, IsDistinct-tail}
use Rattle.std.proofs.lemmas.Map.Made.{length-le_from_is_member}
use Rattle.wx_base.specs.Facts.{AreAscending}
use Rattle.cache_ages.specs.Bounds.{is_one_of}

-- ---- what is in a list

pub none_there : (v : ℕ) → Contains [] v → ⊥
none_there v h = absurd (omega (arith, h.1))

pub the_one : (u v : ℕ) → Contains (u ∷ []) v → u ≡ v
the_one u v h = let e : h.0 ≡ 0 = omega (arith, h.1) in subst (λ (k : ℕ). get_or (u ∷ []) k v ≡ v) e h.2

pub there_too : (xs ys : List ℕ) (v : ℕ) → xs ≡ ys → Contains xs v → Contains ys v
there_too xs ys v e h = subst (λ (zs : List ℕ). Contains zs v) e h

pub same_there : (xs : List ℕ) (u v : ℕ) → u ≡ v → Contains xs u → Contains xs v
same_there xs u v e h = subst (λ (w : ℕ). Contains xs w) e h

pub flip : (a b : ℕ) → eqb a b ≡ eqb b a
flip a b = nat_eq_equiv.symm a b

pub one_from : (xs : List ℕ) (x : ℕ) → Contains xs x → is_one_of xs x ≡ true
one_from xs x c = list_any_at (λ other. eqb other x) xs c.0 x c.1 (eq-eqb (get_or xs c.0 x) x c.2)

pub one_to : (xs : List ℕ) (x : ℕ) → is_one_of xs x ≡ true → Contains xs x
one_to xs x one =
    let a = Any-from_list_any (λ other. eqb other x) xs one in
    let same : a.1 ≡ x = eqb-true a.1 x a.4 in
    subst (λ (y : ℕ). Contains xs y) same (a.0, a.2, a.3)

first_or_later : (y : ℕ) (ys : List ℕ) (x : ℕ) (k : ℕ) → k < length (y ∷ ys) → get_or (y ∷ ys) k x ≡ x → (y ≡ x) ⊎ Contains ys x
first_or_later y ys x zero h e = inl e
first_or_later y ys x (suc k) h e = inr (k, omega arith, e)

pub later : (y : ℕ) (ys : List ℕ) (x : ℕ) → Contains ys x → Contains (y ∷ ys) x
later y ys x c = (suc c.0, omega (arith, c.1), c.2)

pub cons_cases : (y : ℕ) (ys : List ℕ) (x : ℕ) → Contains (y ∷ ys) x → (y ≡ x) ⊎ Contains ys x
cons_cases y ys x c = first_or_later y ys x c.0 c.1 c.2

pub first_there : (y : ℕ) (ys : List ℕ) → Contains (y ∷ ys) y
first_there y ys = (0, omega arith, refl)

-- ---- filters

pub filter_among : (p : ℕ → Bool) (xs : List ℕ) (x : ℕ) → Contains (filter p xs) x → Contains xs x × (p x ≡ true)
filter_among p [] x c = absurd (none_there x c)
filter_among p (y ∷ ys) x c = at (p y) refl (λ k. filter_among p ys x k)
  where
    at : (b : Bool) → p y ≡ b → (Contains (filter p ys) x → Contains ys x × (p x ≡ true)) → Contains (y ∷ ys) x × (p x ≡ true)
    at true e again = elim (cons_cases y (filter p ys) x (there_too (filter p (y ∷ ys)) (y ∷ filter p ys) x (ap (λ (b : Bool). cond b (y ∷ filter p ys) (filter p ys)) e) c)) [
      | inl same ↦ ((0, omega arith, same), subst (λ (z : ℕ). p z ≡ true) same e)
      | inr rest ↦ let k = again rest in (later y ys x k.0, k.1)
    ]
    at false e again = let k = again (there_too (filter p (y ∷ ys)) (filter p ys) x (ap (λ (b : Bool). cond b (y ∷ filter p ys) (filter p ys)) e) c) in (later y ys x k.0, k.1)

pub among_filter : (p : ℕ → Bool) (xs : List ℕ) (x : ℕ) → Contains xs x → p x ≡ true → Contains (filter p xs) x
among_filter p [] x c e = absurd (none_there x c)
among_filter p (y ∷ ys) x c e = elim (cons_cases y ys x c) [
  | inl same ↦ there_too (y ∷ filter p ys) (filter p (y ∷ ys)) x (sym (ap (λ (b : Bool). cond b (y ∷ filter p ys) (filter p ys)) (subst (λ (z : ℕ). p z ≡ true) (sym same) e)))
      (same_there (y ∷ filter p ys) y x same (first_there y (filter p ys)))
  | inr rest ↦ further (p y) refl (among_filter p ys x rest e)
]
  where
    further : (b : Bool) → p y ≡ b → Contains (filter p ys) x → Contains (filter p (y ∷ ys)) x
    further true h k = there_too (y ∷ filter p ys) (filter p (y ∷ ys)) x (sym (ap (λ (b : Bool). cond b (y ∷ filter p ys) (filter p ys)) h)) (later y (filter p ys) x k)
    further false h k = there_too (filter p ys) (filter p (y ∷ ys)) x (sym (ap (λ (b : Bool). cond b (y ∷ filter p ys) (filter p ys)) h)) k

pub filter_none : (p : ℕ → Bool) (xs : List ℕ) → ((x : ℕ) → Contains xs x → p x ≡ false) → (x : ℕ) → Contains (filter p xs) x → ⊥
filter_none p xs h x c = let k = filter_among p xs x c in false≢true (sym (h x k.0) ∙ k.1)

-- ---- how many

member_from : (xs : List ℕ) (x : ℕ) → Contains xs x → list_any (eqb x) xs ≡ true
member_from xs x c = list_any_at (eqb x) xs c.0 x c.1 (eq-eqb x (get_or xs c.0 x) (sym c.2))

member_to : (xs : List ℕ) (x : ℕ) → list_any (eqb x) xs ≡ true → Contains xs x
member_to xs x one =
    let a = Any-from_list_any (eqb x) xs one in
    let same : a.1 ≡ x = sym (eqb-true x a.1 a.4) in
    subst (λ (y : ℕ). Contains xs y) same (a.0, a.2, a.3)

-- different numbers that are all in a list are at most as many
pub no_more : (xs ys : List ℕ) → IsDistinct nat_eq xs → ((x : ℕ) → Contains xs x → Contains ys x) → length xs ≤ length ys
no_more xs ys apart all = length-le_from_is_member nat_eq_equiv xs ys apart (λ x one. member_from ys x (all x (member_to xs x one)))

-- numbers that ascend differ, also those of them that pass a test
pub ascending_distinct : (xs : List ℕ) → AreAscending xs → IsDistinct nat_eq xs
ascending_distinct xs up = IsDistinct-from_apart nat_eq xs (λ i j d before within. apart (get_or xs i d) (get_or xs j d) (up i j d before within))
  where
    apart : (a b : ℕ) → a < b → eqb a b ≡ false
    apart a b h = elim (cases_Bool (eqb a b)) [
      | inl e ↦ absurd (omega (arith, h, eqb-true a b e))
      | inr e ↦ e
    ]

each_kept : (P : ℕ → Type 0) (p : ℕ → Bool) (xs : List ℕ) → AllByRecursion P xs → AllByRecursion P (filter p xs)
each_kept P p [] all = all
each_kept P p (x ∷ xs) all = at (p x) refl (each_kept P p xs all.1)
  where
    at : (b : Bool) → p x ≡ b → AllByRecursion P (filter p xs) → AllByRecursion P (filter p (x ∷ xs))
    at true e rest = subst (AllByRecursion P) (sym (ap (λ (b : Bool). cond b (x ∷ filter p xs) (filter p xs)) e)) (all.0, rest)
    at false e rest = subst (AllByRecursion P) (sym (ap (λ (b : Bool). cond b (x ∷ filter p xs) (filter p xs)) e)) rest

pub filter_distinct : (p : ℕ → Bool) (xs : List ℕ) → IsDistinct nat_eq xs → IsDistinct nat_eq (filter p xs)
filter_distinct p [] apart = apart
filter_distinct p (x ∷ xs) apart = at (p x) refl (filter_distinct p xs (IsDistinct-tail nat_eq x xs apart))
  where
    at : (b : Bool) → p x ≡ b → IsDistinct nat_eq (filter p xs) → IsDistinct nat_eq (filter p (x ∷ xs))
    at true e rest = subst (IsDistinct nat_eq) (sym (ap (λ (b : Bool). cond b (x ∷ filter p xs) (filter p xs)) e))
        (IsDistinct-cons nat_eq x (filter p xs) (each_kept (λ y. nat_eq x y ≡ false) p xs (IsDistinct-head nat_eq x xs apart)) rest)
    at false e rest = subst (IsDistinct nat_eq) (sym (ap (λ (b : Bool). cond b (x ∷ filter p xs) (filter p xs)) e)) rest

-- ---- the first elements

pub take_among : (n : ℕ) (xs : List ℕ) (x : ℕ) → Contains (take n xs) x → Contains xs x
take_among zero xs x c = absurd (omega (arith, c.1))
take_among (suc n) [] x c = c
take_among (suc n) (y ∷ ys) x c = elim (cons_cases y (take n ys) x c) [
  | inl same ↦ same_there (y ∷ ys) y x same (first_there y ys)
  | inr rest ↦ later y ys x (take_among n ys x rest)
]

pub none_distinct : (xs : List ℕ) → xs ≡ [] → IsDistinct nat_eq xs
none_distinct xs e = IsDistinct-from_apart nat_eq xs (λ i j d before within. absurd (omega (arith, within, ap length e)))
