-- What a binary search by a key finds in a list that ascends by it.
use Rattle.std.proofs.Common.{◌≡◌, ℕ, zero, suc, ◌<◌, ◌≤◌, List, [], ◌∷◌, length, map, get_or, slice_get, Some, Result, Ok, Err, IfOk, IfErr, refl, sym, ap, subst, ◌∙◌, arith, inl, inr}
use Rattle.std.specs.List.{AllPairs}
use Rattle.std.specs.List.Sorted.{IsSearchInRange, IsBinarySearchResult, IsNonDecreasingBy}
use Rattle.std.specs.Ordering.{nat_cmp, ordering_index}
use Rattle.std.proofs.Math.ListN.{get_or-map}
use Rattle.std.proofs.lemmas.Bool.{cases_lt}
use Rattle.std.proofs.lemmas.Bool.Decides.{nat_tests}
use Rattle.std.proofs.lemmas.Cmp.{ranked}
use Rattle.std.proofs.lemmas.List.{length-map}
use Rattle.std.proofs.lemmas.Option.{get_or_from_slice_get, slice_get_within}

-- an element stands where the key is, or none has the key
pub record Finds {X : Type 0} (key : X → ℕ) (xs : List X) (k : ℕ) (r : Result ℕ ℕ) : Type 0 where
  pub there : IfOk r (λ at. (x : X) × (slice_get xs at ≡ Some x) × (key x ≡ k))
  pub nowhere : IfErr r (λ at. (j : ℕ) (x : X) → slice_get xs j ≡ Some x → key x ≡ k → ⊥)

at_place : {X : Type 0} (xs : List X) (i : ℕ) → i < length xs → (x : X) × (slice_get xs i ≡ Some x)
at_place [] i h = absurd (omega (arith, h))
at_place (x ∷ xs) zero h = (x, refl)
at_place (x ∷ xs) (suc i) h = at_place xs i (omega (arith, h))

-- keys that ascend as a list ascend by the elements
pub by_elements : {X : Type 0} (key : X → ℕ) (xs : List X) → AllPairs (λ a b. a < b) (map key xs) → AllPairs (λ x y. key x < key y) xs
by_elements key xs up i j d less within =
    let first : get_or (map key xs) i (key d) ≡ key (get_or xs i d) = get_or-map key xs i d in
    let second : get_or (map key xs) j (key d) ≡ key (get_or xs j d) = get_or-map key xs j d in
    let below = up i j (key d) less (subst (λ n. j < n) (sym (length-map xs key)) within) in
    omega (arith, first, second, below)

module _ {X : Type 0} (key : X → ℕ) (xs : List X) (k : ℕ) (up : AllPairs (λ x y. key x < key y) xs) where
  higher : (a b : ℕ) → a ≤ b → ordering_index (nat_cmp a k) ≤ ordering_index (nat_cmp b k)
  higher a b h = grind (arith, nat_tests)

  rises : IsNonDecreasingBy (λ x. ordering_index (nat_cmp (key x) k)) xs
  rises i j d le within =
      let keys : key (get_or xs i d) ≤ key (get_or xs j d) = elim (cases_lt i j) [
        | inl less ↦ let below = up i j d less within in omega (arith, below)
        | inr more ↦ let e : i ≡ j = omega (arith, le, more) in let f = ap (λ (n : ℕ). key (get_or xs n d)) e in omega (arith, f)
      ] in
      higher (key (get_or xs i d)) (key (get_or xs j d)) keys

  pub found : (r : Result ℕ ℕ) → IsSearchInRange r (length xs) → IsBinarySearchResult (λ x. nat_cmp (key x) k) xs r → Finds key xs k r
  found (Ok at) within equal =
      let e = at_place xs at within in
      record {
        there = (e.0, e.1, sym (ap key (get_or_from_slice_get xs at e.0 e.0 e.1)) ∙ ranked _ k _ (sym (equal e.0)));
        nowhere = tt;
      }
  found (Err at) within parted = record {
    there = tt;
    nowhere = λ j x stands same.
        let less = slice_get_within xs j x stands in
        let here : key (get_or xs j x) ≡ k = ap key (get_or_from_slice_get xs j x x stands) ∙ same in
        elim (cases_lt j at) [
          | inl before ↦ let below : key (get_or xs j x) < k = ranked _ k _ (sym ((parted rises).0 j x (omega arith) before)) in omega (arith, below, here)
          | inr behind ↦ let above : k < key (get_or xs j x) = ranked _ k _ (sym ((parted rises).1 j x behind less)) in omega (arith, above, here)
        ];
  }
