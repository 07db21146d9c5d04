-- A set of pairs has each at one position.
use Rattle.std.proofs.Common.{◌≡◌, ℕ, ◌<◌, Bool, true, false, List, slice_get, get_or, Some, sym, ◌∙◌, inl, inr, arith, eqb, ◌&&◌}
use Rattle.std.proofs.lemmas.Bool.{false≢true, cases_lt}
use Rattle.std.proofs.lemmas.Bool.Decides.{nat_tests}
use Rattle.std.proofs.lemmas.Map.Keys.{apart_from_distinct}
use Rattle.std.proofs.lemmas.Option.{slice_get_within, get_or_from_slice_get}
use Rattle.std.specs.List.{IsDistinct}

module _ (e : ℕ × ℕ → ℕ × ℕ → Bool) (itself : (x : ℕ × ℕ) → e x x ≡ true) (pairs : List (ℕ × ℕ)) (distinct : IsDistinct e pairs) where
  apart : (i j : ℕ) (x : ℕ × ℕ) → slice_get pairs i ≡ Some x → slice_get pairs j ≡ Some x → i < j → ⊥
  apart i j x at at' less =
      let d : e (get_or pairs i x) (get_or pairs j x) ≡ false = apart_from_distinct e pairs i j x distinct less (slice_get_within pairs j x at') in
      let d' = rw (get_or_from_slice_get pairs i x x at, get_or_from_slice_get pairs j x x at') at d in
      false≢true (sym d' ∙ itself x)

  pub one_position : (i j : ℕ) (x : ℕ × ℕ) → slice_get pairs i ≡ Some x → slice_get pairs j ≡ Some x → i ≡ j
  one_position i j x at at' = elim (cases_lt i j) [
    | inl l ↦ absurd (apart i j x at at' l)
    | inr g ↦ elim (cases_lt j i) [ inl l ↦ absurd (apart j i x at' at l) | inr g' ↦ omega arith ]
  ]

pub both_equal : (a b : ℕ) → (eqb a a && eqb b b) ≡ true
both_equal a b = grind (arith, nat_tests)
