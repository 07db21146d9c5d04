-- Elements that differ, all of one list, are at most as many as the list has.
use Rattle.std.proofs.Common.{◌≡◌, ℕ, zero, suc, ◌<◌, ◌≤◌, Bool, true, false, List, [], ◌∷◌, length, get_or, refl, sym, ap, ◌∙◌, subst, arith, eqb}
use Rattle.std.specs.List.{AllPairs, Contains, list_any}
use Rattle.std.proofs.lemmas.Bool.Decides.{nat_tests}
use Rattle.std.proofs.lemmas.List.Elements.{at_from_Contains}
use Rattle.std.proofs.lemmas.List.Folds.{Any-from_list_any}
use Rattle.std.proofs.lemmas.Map.Keys.{IsDistinct-from_apart}
use Rattle.std.proofs.lemmas.Map.Steps.{length-le_from_distinct_below}

differ : (a b : ℕ) → (a ≡ b → ⊥) → eqb a b ≡ false
differ a b apart = by_test (eqb a b) refl
  where
    same : eqb a b ≡ true → a ≡ b
    same h = grind (arith, nat_tests)

    by_test : (t : Bool) → eqb a b ≡ t → t ≡ false
    by_test true e = absurd (apart (same e))
    by_test false e = refl

module _ {X : Type 0} (ys : List X) where
  -- where some elements stand in the list
  record Places (xs : List X) : Type 0 where
    places : List ℕ
    many : length places ≡ length xs
    within : (k n : ℕ) → k < length xs → get_or places k n < length ys
    stands : (k n : ℕ) (d : X) → k < length xs → get_or ys (get_or places k n) d ≡ get_or xs k d

  -- one more before them
  place_before : (x : X) (xs : List X) → Contains ys x → Places xs → Places (x ∷ xs)
  place_before x xs stands rest = record { places = at.0 ∷ rest.places; many = ap suc rest.many; within = below; stands = found }
    where
      at : (k : ℕ) × (k < length ys) × ((d : X) → get_or ys k d ≡ x)
      at = at_from_Contains ys x stands

      below : (k n : ℕ) → k < suc (length xs) → get_or (at.0 ∷ rest.places) k n < length ys
      below zero n l = at.1
      below (suc k) n l = rest.within k n (omega arith)

      found : (k n : ℕ) (d : X) → k < suc (length xs) → get_or ys (get_or (at.0 ∷ rest.places) k n) d ≡ get_or (x ∷ xs) k d
      found zero n d l = at.2 d
      found (suc k) n d l = rest.stands k n d (omega arith)

  places_of : (xs : List X) → ((k : ℕ) (d : X) → k < length xs → Contains ys (get_or xs k d)) → Places xs
  places_of [] each = record { places = []; many = refl; within = λ k n l. absurd (omega arith); stands = λ k n d l. absurd (omega arith) }
  places_of (x ∷ xs) each = place_before x xs (each 0 x (omega arith)) (places_of xs (λ k d l. each (suc k) d (omega arith)))

  -- elements that differ stand at places that differ
  unlike : (xs : List X) (p : Places xs) (i j n : ℕ) → AllPairs (λ x y. x ≡ y → ⊥) xs → i < j → j < length xs → get_or p.places i n ≡ get_or p.places j n → ⊥
  unlike [] p i j n apart less within e = absurd (omega (arith, within))
  unlike (x ∷ xs) p i j n apart less within e =
      apart i j x less within (sym (p.stands i n x (omega arith)) ∙ ap (λ k. get_or ys k x) e ∙ p.stands j n x within)

  below : (xs : List X) (p : Places xs) (q : ℕ) → list_any (eqb q) p.places ≡ true → q < length ys
  below xs p q t =
      let a = Any-from_list_any (eqb q) p.places t in
      let l = p.within a.0 a.1 (omega (arith, p.many, a.2)) in
      same a.1 a.4 (subst (λ k. k < length ys) a.3 l)
    where
      same : (k : ℕ) → eqb q k ≡ true → k < length ys → q < length ys
      same k h l = grind (arith, nat_tests)

  pub no_more : (xs : List X) → AllPairs (λ x y. x ≡ y → ⊥) xs → ((k : ℕ) (d : X) → k < length xs → Contains ys (get_or xs k d)) → length xs ≤ length ys
  no_more xs apart each =
      let p = places_of xs each in
      let distinct = IsDistinct-from_apart eqb p.places (λ i j n less within. differ _ _ (unlike xs p i j n apart less (omega (arith, p.many, within)))) in
      let few = length-le_from_distinct_below p.places (length ys) distinct (below xs p) in
      omega (arith, few, p.many)
