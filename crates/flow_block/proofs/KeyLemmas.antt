-- What a binary search finds in a list whose keys ascend.
use Rattle.std.proofs.Common.{◌≡◌, ℕ, zero, suc, ◌<◌, ◌≤◌, Bool, true, false, eqb, List, [], ◌∷◌, length, get_or, Some, None, Result, Ok, Err, IfOk, IfErr, refl, sym, ap, inl, inr, arith}
use Rattle.std.specs.List.{AllPairs, find}
use Rattle.std.specs.List.Sorted.{IsSearchInRange, IsBinarySearchResult, IsNonDecreasingBy}
use Rattle.std.specs.Ordering.{nat_cmp, ordering_index}
use Rattle.std.proofs.lemmas.Bool.{cases_lt}
use Rattle.std.proofs.lemmas.Bool.Decides.{nat_tests}
use Rattle.std.proofs.lemmas.Cmp.{ranked}
use Rattle.std.proofs.lemmas.List.Sorted.{IsNonDecreasingBy-from_default}

find_first : {X : Type 0} (p : X → Bool) (xs : List X) (i : ℕ) (d : X) → i < length xs → p (get_or xs i d) ≡ true → ((j : ℕ) → j < i → p (get_or xs j d) ≡ false) → find p xs ≡ Some (get_or xs i d)
find_first p [] i d within holds before = absurd (omega arith)
find_first p (x ∷ xs) zero d within holds before = rw holds refl
find_first p (x ∷ xs) (suc i) d within holds before = rw (before 0 (omega arith)) (find_first p xs i d (omega arith) holds (λ j less. before (suc j) (omega arith)))

find_nowhere : {X : Type 0} (p : X → Bool) (xs : List X) (d : X) → ((j : ℕ) → j < length xs → p (get_or xs j d) ≡ false) → find p xs ≡ None
find_nowhere p [] d never = refl
find_nowhere p (x ∷ xs) d never = rw (never 0 (omega arith)) (find_nowhere p xs d (λ j less. never (suc j) (omega arith)))

-- where the key stands, or that it stands nowhere
pub record FindsKey {X : Type 0} (key : X → ℕ) (xs : List X) (k : ℕ) (d : X) (r : Result ℕ ℕ) : Type 0 where
  pub found : IfOk r (λ at. find (λ x. eqb (key x) k) xs ≡ Some (get_or xs at d))
  pub absent : IfErr r (λ at. find (λ x. eqb (key x) k) xs ≡ None)
  pub is : IfOk r (λ at. key (get_or xs at d) ≡ k)

module _ {X : Type 0} (key : X → ℕ) (xs : List X) (ascending : AllPairs (λ x y. key x < key y) xs) (k : ℕ) (d : X) where
  rises : IsNonDecreasingBy (λ x. ordering_index (nat_cmp (key x) k)) xs
  rises = IsNonDecreasingBy-from_default (λ x. ordering_index (nat_cmp (key x) k)) xs d (λ i j le within.
      let keys : key (get_or xs i d) ≤ key (get_or xs j d) = elim (cases_lt i j) [
        | inl less ↦ omega (arith, ascending i j d less within)
        | inr more ↦ let e : i ≡ j = omega arith in omega (arith, ap (λ (n : ℕ). key (get_or xs n d)) e)
      ] in
      grind (arith, nat_tests))

  pub searched : (r : Result ℕ ℕ) → IsSearchInRange r (length xs) → IsBinarySearchResult (λ x. nat_cmp (key x) k) xs r → FindsKey key xs k d r
  searched (Ok at) within equal = record {
    found =
        let is : key (get_or xs at d) ≡ k = ranked _ k _ (sym (equal d)) in
        find_first (λ x. eqb (key x) k) xs at d within (grind (arith, nat_tests)) (λ j less. let below = ascending j at d less within in grind (arith, nat_tests));
    absent = tt;
    is = ranked _ k _ (sym (equal d));
  }
  searched (Err at) within parted = record {
    found = tt;
    absent = find_nowhere (λ x. eqb (key x) k) xs d (λ j less. elim (cases_lt j at) [
      | inl before ↦ let below : key (get_or xs j d) < k = ranked _ k _ (sym ((parted rises).0 j d (omega arith) before)) in grind (arith, nat_tests)
      | inr behind ↦ let above : k < key (get_or xs j d) = ranked _ k _ (sym ((parted rises).1 j d behind less)) in grind (arith, nat_tests)
    ]);
    is = tt;
  }
