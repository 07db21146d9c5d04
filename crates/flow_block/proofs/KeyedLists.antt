-- Ascending lists that are told by what stands in them are one: lists whose elements are told by a key, and numbers.
use Rattle.std.proofs.Common.{◌≡◌, ℕ, zero, suc, ◌<◌, ◌≤◌, ◌⊎◌, List, [], ◌∷◌, length, get_or, refl, sym, ap, subst, inl, inr, arith}
use Rattle.std.proofs.lemmas.List.Elements.{Contains-get_or}
use Rattle.std.specs.List.{All, AllPairs, Any, Contains}
use Rattle.wx_base.specs.Facts.{AreAscending}

any_at : {X : Type 0} (P : X → Type 0) (y : X) (ys : List X) (k : ℕ) (x : X) → k < length (y ∷ ys) → get_or (y ∷ ys) k x ≡ x → P x → P y ⊎ Any P ys
any_at P y ys zero x within e holds = inl (subst P (sym e) holds)
any_at P y ys (suc k) x within e holds = inr (k, x, omega arith, e, holds)

-- what holds of some element holds of the first or of a later one
any_cases : {X : Type 0} (P : X → Type 0) (y : X) (ys : List X) → Any P (y ∷ ys) → P y ⊎ Any P ys
any_cases P y ys a = any_at P y ys a.0 a.1 a.2 a.3 a.4

no_element : {X : Type 0} (P : X → Type 0) → Any P [] → ⊥
no_element P a = let h : a.0 < 0 = a.2 in absurd (omega arith)

tail_ascends : {X : Type 0} (R : X → X → Type 0) (x : X) (xs : List X) → AllPairs R (x ∷ xs) → AllPairs R xs
tail_ascends R x xs h i j d less within = h (suc i) (suc j) d (omega arith) (omega arith)

module _ {X : Type 0} (key : X → ℕ) where
  -- each key of one list is one of the other
  record Covers (xs ys : List X) : Type 0 where
    found : All (λ x. Any (λ y. key y ≡ key x) ys) xs

  -- the first key of an ascending list is the least
  first_least : (y : X) (ys : List X) (k : ℕ) → AllPairs (λ x y. key x < key y) (y ∷ ys) → Any (λ z. key z ≡ k) (y ∷ ys) → key y ≤ k
  first_least y ys k ascending a = elim (any_cases (λ z. key z ≡ k) y ys a) [
    | inl e ↦ omega arith
    | inr b ↦
        let less : key y < key (get_or ys b.0 b.1) = ascending 0 (suc b.0) b.1 (omega arith) (omega (arith, b.2)) in
        omega (arith, ap key b.3, b.4)
  ]

  covers_rest : (x y : X) (xs ys : List X) → key x ≡ key y → AllPairs (λ x y. key x < key y) (x ∷ xs) → Covers (x ∷ xs) (y ∷ ys) → Covers xs ys
  covers_rest x y xs ys e ascending c = record {
    found = λ k d within.
        let z = get_or xs k d in
        let less : key x < key z = ascending 0 (suc k) d (omega arith) (omega arith) in
        elim (any_cases (λ w. key w ≡ key z) y ys (c.found (suc k) d (omega arith))) [ inl first ↦ absurd (omega arith) | inr later ↦ later ];
  }

  module _ (P : X → Type 0) (same : (x y : X) → P x → P y → key x ≡ key y → x ≡ y) where
    one_list : (xs ys : List X) → AllPairs (λ x y. key x < key y) xs → AllPairs (λ x y. key x < key y) ys → All P xs → All P ys → Covers xs ys → Covers ys xs → xs ≡ ys
    one_list [] [] ax ay px py cx cy = refl
    one_list [] (y ∷ ys) ax ay px py cx cy = absurd (no_element (λ x. key x ≡ key y) (cy.found 0 y (omega arith)))
    one_list (x ∷ xs) [] ax ay px py cx cy = absurd (no_element (λ y. key y ≡ key x) (cx.found 0 x (omega arith)))
    one_list (x ∷ xs) (y ∷ ys) ax ay px py cx cy =
        let down : key y ≤ key x = first_least y ys (key x) ay (cx.found 0 x (omega arith)) in
        let up : key x ≤ key y = first_least x xs (key y) ax (cy.found 0 y (omega arith)) in
        let e : key x ≡ key y = omega arith in
        let first = same x y (px 0 x (omega arith)) (py 0 y (omega arith)) e in
        let rest = one_list xs ys (tail_ascends (λ x y. key x < key y) x xs ax) (tail_ascends (λ x y. key x < key y) y ys ay)
        (λ k d within. px (suc k) d (omega arith)) (λ k d within. py (suc k) d (omega arith))
        (covers_rest x y xs ys e ax cx) (covers_rest y x ys xs (sym e) ay cy) in
        λ i. first i ∷ rest i

    -- two ascending lists that have just the keys of which something holds, and of each key the one element that may have it
    pub told_by_keys : (K : ℕ → Type 0) → ((x : X) → P x → K (key x)) → (xs ys : List X)
        → AllPairs (λ x y. key x < key y) xs → All P xs → ((k : ℕ) → K k → Any (λ x. key x ≡ k) xs)
        → AllPairs (λ x y. key x < key y) ys → All P ys → ((k : ℕ) → K k → Any (λ x. key x ≡ k) ys) → xs ≡ ys
    told_by_keys K has xs ys ax px wx ay py wy = one_list xs ys ax ay px py
        (record { found = λ k d within. wy (key (get_or xs k d)) (has (get_or xs k d) (px k d within)) })
        (record { found = λ k d within. wx (key (get_or ys k d)) (has (get_or ys k d) (py k d within)) })

-- two ascending lists of exactly the numbers of which something holds
pub numbers_one : (K : ℕ → Type 0) (xs ys : List ℕ) → AreAscending xs → ((a : ℕ) → Contains xs a → K a) → ((a : ℕ) → K a → Contains xs a)
    → AreAscending ys → ((a : ℕ) → Contains ys a → K a) → ((a : ℕ) → K a → Contains ys a) → xs ≡ ys
numbers_one K xs ys ax sx wx ay sy wy = told_by_keys (λ x. x) K (λ x y kx ky e. e) K (λ x k. k) xs ys
    ax (λ k d within. sx (get_or xs k d) (Contains-get_or xs k d within)) (λ a holds. let c = wx a holds in (c.0, a, c.1, c.2, refl))
    ay (λ k d within. sy (get_or ys k d) (Contains-get_or ys k d within)) (λ a holds. let c = wy a holds in (c.0, a, c.1, c.2, refl))
