-- Lists whose keys ascend: where a key stands, and that it stands nowhere else.
use Rattle.std.proofs.Common.{◌≡◌, ℕ, zero, suc, ◌<◌, ◌≤◌, List, [], ◌∷◌, length, get_or, slice_get, Some, None, Result, Ok, Err, IfOk, IfErr, refl, sym, ap, ◌∙◌, inl, inr, arith, ◌⊎◌}
use Rattle.std.specs.List.{AllPairs}
use Rattle.std.specs.List.Sorted.{IsSearchInRange, IsBinarySearchResult, IsNonDecreasingBy}
use Rattle.std.specs.Ordering.{nat_cmp, ordering_index}
use Rattle.std.proofs.lemmas.Bool.{cases_lt}
use Rattle.std.proofs.lemmas.Bool.Decides.{nat_tests}
use Rattle.std.proofs.lemmas.Cmp.{ranked}
use Rattle.std.proofs.lemmas.List.Sorted.{IsNonDecreasingBy-from_default}
use Rattle.std.proofs.lemmas.Option.{slice_get_within, get_or_from_slice_get}

-- where the key stands, or that it stands nowhere
pub record FindsKey {X : Type 0} (key : X → ℕ) (xs : List X) (k : ℕ) (d : X) (r : Result ℕ ℕ) : Type 0 where
  pub is : IfOk r (λ at. key (get_or xs at d) ≡ k)
  pub nowhere : IfErr r (λ at. (j : ℕ) → j < length xs → key (get_or xs j d) ≡ k → ⊥)

module _ {X : Type 0} (key : X → ℕ) (xs : List X) (ascending : AllPairs (λ x y. key x < key y) xs) where
  -- no key is below its place
  pub place_bound : (i : ℕ) (d : X) → i < length xs → i ≤ key (get_or xs i d)
  place_bound zero d h = omega arith
  place_bound (suc i) d h = omega (arith, place_bound i d (omega arith), ascending i (suc i) d (omega arith) h)

  -- a key stands at one place
  pub place_once : (i j : ℕ) (x y : X) → slice_get xs i ≡ Some x → slice_get xs j ≡ Some y → key x ≡ key y → i ≡ j
  place_once i j x y is is' same =
      let ei : key (get_or xs i x) ≡ key x = ap key (get_or_from_slice_get xs i x x is) in
      let ej : key (get_or xs j x) ≡ key y = ap key (get_or_from_slice_get xs j y x is') in
      elim (cases_lt i j) [
        | inl less ↦ absurd (omega (arith, ascending i j x less (slice_get_within xs j y is')))
        | inr more ↦ elim (cases_lt j i) [
          | inl less ↦ absurd (omega (arith, ascending j i x less (slice_get_within xs i x is)))
          | inr other ↦ omega arith
        ]
      ]

  module _ (k : ℕ) (d : X) where
    rises : IsNonDecreasingBy (λ x. ordering_index (nat_cmp (key x) k)) xs
    rises = IsNonDecreasingBy-from_default (λ x. ordering_index (nat_cmp (key x) k)) xs d (λ i j le within.
        let keys : key (get_or xs i d) ≤ key (get_or xs j d) = elim (cases_lt i j) [
          | inl less ↦ omega (arith, ascending i j d less within)
          | inr more ↦ let e : i ≡ j = omega arith in omega (arith, ap (λ (n : ℕ). key (get_or xs n d)) e)
        ] in
        grind (arith, nat_tests))

    pub searched : (r : Result ℕ ℕ) → IsSearchInRange r (length xs) → IsBinarySearchResult (λ x. nat_cmp (key x) k) xs r → FindsKey key xs k d r
    searched (Ok at) within equal = record { is = ranked _ k _ (sym (equal d)); nowhere = tt }
    searched (Err at) within parted = record {
      is = tt;
      nowhere = λ j less. elim (cases_lt j at) [
        | inl before ↦ let below : key (get_or xs j d) < k = ranked _ k _ (sym ((parted rises).0 j d (omega arith) before)) in λ e. omega (arith, e)
        | inr behind ↦ let above : k < key (get_or xs j d) = ranked _ k _ (sym ((parted rises).1 j d behind less)) in λ e. omega (arith, e)
      ];
    }
