-- The greatest leaf of a list of places.
use Rattle.std.proofs.Common.{◌≡◌, ℕ, zero, suc, ◌<◌, ◌≤◌, Bool, true, false, List, [], ◌∷◌, length, slice_get, get_or, Some, refl, sym, ap, ◌∙◌, arith, eqb, ◌||◌, inl, inr, ◌⊎◌}
use Rattle.std.proofs.lemmas.Bool.{false≢true}
use Rattle.std.proofs.lemmas.Bool.Decides.{nat_tests}
use Rattle.xdd_table.specs.declared.node.Node.{Node}
use Rattle.xdd_table.specs.declared.node.Node.TheVariants.{Leaf}
use Rattle.xdd_table.specs.Diagram.{Combination, time}
use Rattle.xdd_table.specs.Order.{has, LeadsTo}

same_place : (a b : ℕ) → eqb a b ≡ true → b ≡ a
same_place a b h = grind (arith, nat_tests)

place_itself : (a : ℕ) → eqb a a ≡ true
place_itself a = grind (arith, nat_tests)

either_true : (a b : Bool) → (a || b) ≡ true → (a ≡ true) ⊎ (b ≡ true)
either_true true b h = inl refl
either_true false b h = inr h

right_true : (a b : Bool) → b ≡ true → (a || b) ≡ true
right_true true b h = refl
right_true false b h = h

-- a listed place has a position
record Position (places : List ℕ) (q : ℕ) : Type 0 where
  at : ℕ
  within : at < length places
  is : get_or places at 0 ≡ q

position_of : (places : List ℕ) (q : ℕ) → has places q ≡ true → Position places q
position_of [] q h = absurd (false≢true h)
position_of (x ∷ xs) q h = elim (either_true (eqb q x) (has xs q) h) [
  | inl e ↦ record { at = zero; within = omega arith; is = same_place q x e }
  | inr e ↦ let p = position_of xs q e in record { at = suc p.at; within = omega (arith, p.within); is = p.is }
]

has_position : (places : List ℕ) (k : ℕ) → k < length places → has places (get_or places k 0) ≡ true
has_position [] k h = absurd (omega arith)
has_position (x ∷ xs) zero h = rw (place_itself x) refl
has_position (x ∷ xs) (suc k) h = right_true (eqb (get_or xs k 0) x) (has xs (get_or xs k 0)) (has_position xs k (omega arith))

module _ (nodes : List Node) (p n : ℕ) (places : List ℕ)
    (bound : (k t : ℕ) → k < length places → slice_get nodes (get_or places k 0) ≡ Some (Leaf t) → t ≤ n)
    (leads : (f : Combination) → LeadsTo nodes f p places) where
  pub greatest_bound : (f : Combination) → time nodes f p ≤ n
  greatest_bound f =
      let l = leads f in
      let q = position_of places l.place l.listed in
      bound q.at (time nodes f p) q.within (ap (slice_get nodes) q.is ∙ l.leaf_is)

  pub greatest_attained : ((q t : ℕ) → has places q ≡ true → slice_get nodes q ≡ Some (Leaf t) → (f : Combination) × (time nodes f p ≡ t))
      → (n ≡ 0) ⊎ ((k : ℕ) × (k < length places) × (slice_get nodes (get_or places k 0) ≡ Some (Leaf n))) → (f : Combination) × (n ≡ time nodes f p)
  greatest_attained led (inl e) = let f : Combination = λ e. false in let b = greatest_bound f in (f, omega arith)
  greatest_attained led (inr w) = let l = led (get_or places w.0 0) n (has_position places w.0 w.1) w.2 in (l.0, sym l.1)
