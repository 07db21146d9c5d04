-- A set of vectors has each at one place, and takes one more at its end.
use Rattle.std.proofs.Common.{◌≡◌, ℕ, zero, suc, ◌+◌, ◌<◌, ◌≤◌, Bool, true, false, List, [], ◌∷◌, ◌++◌, length, slice_get, get_or, Some, refl, sym, ap, ◌∙◌, inl, inr, arith, if◌then◌else◌, length-append, eqb, ◌&&◌, ◌||◌}
use Rattle.std.specs.Cmp.Lexicographic.{pointwise}
use Rattle.std.specs.List.{list_any, IsDistinct}
use Rattle.std.proofs.lemmas.Bool.{false≢true, cases_lt}
use Rattle.std.proofs.lemmas.Bool.Decides.{nat_tests}
use Rattle.std.proofs.lemmas.Map.Keys.{apart_from_distinct}
use Rattle.std.proofs.lemmas.Option.{slice_get_within, get_or_from_slice_get}
use Rattle.std.proofs.lemmas.Slice.Eq.{bytes_eq-Decides}
use Rattle.pipe_time.specs.declared.vector.Vector.{Vector}
use Rattle.pipe_time.specs.Pool.{Stands}
use Rattle.pipe_time.specs.contracts.vector.VectorPartialEq.TheImpl.{eq-value}

unfoldable pub vector_eq : Vector → Vector → Bool
vector_eq = eq-value.it

pub vector_eq_sound : (a b : Vector) → vector_eq a b ≡ true → a ≡ b
unfolding vector_eq
vector_eq_sound a b h = ap (λ x. record { slots = x }) ((bytes_eq-Decides a.slots b.slots).0 h)

pub vector_eq_refl : (a : Vector) → vector_eq a a ≡ true
unfolding vector_eq
vector_eq_refl a = (bytes_eq-Decides a.slots a.slots).1 refl

module _ {A : Type 0} (e : A → A → Bool) (itself : (x : A) → e x x ≡ true) (xs : List A) (distinct : IsDistinct e xs) where
  apart : (i j : ℕ) (x : A) → slice_get xs i ≡ Some x → slice_get xs j ≡ Some x → i < j → ⊥
  apart i j x at at' less =
      let d : e (get_or xs i x) (get_or xs j x) ≡ false = apart_from_distinct e xs i j x distinct less (slice_get_within xs j x at') in
      let d' = rw (get_or_from_slice_get xs i x x at, get_or_from_slice_get xs j x x at') at d in
      false≢true (sym d' ∙ itself x)

  pub one_place : (i j : ℕ) (x : A) → slice_get xs i ≡ Some x → slice_get xs j ≡ Some x → i ≡ j
  one_place i j x at at' = elim (cases_lt i j) [
    | inl l ↦ absurd (apart i j x at at' l)
    | inr g ↦ elim (cases_lt j i) [ inl l ↦ absurd (apart j i x at' at l) | inr g' ↦ omega arith ]
  ]

front : {A : Type 0} (xs ys : List A) (p : ℕ) → p < length xs → slice_get (xs ++ ys) p ≡ slice_get xs p
front [] ys p h = absurd (omega arith)
front (x ∷ xs) ys zero h = refl
front (x ∷ xs) ys (suc p) h = front xs ys p (omega arith)

either_false : (a b : Bool) → (a || b) ≡ false → (a ≡ false) × (b ≡ false)
either_false true b h = absurd (false≢true (sym h))
either_false false b h = (refl, h)

absent : (v : Vector) (vs : List Vector) → list_any (vector_eq v) vs ≡ false → (q : ℕ) → slice_get vs q ≡ Some v → ⊥
absent v [] none q at = cc
absent v (x ∷ xs) none zero at =
    let f = either_false (vector_eq v x) (list_any (vector_eq v) xs) none in
    let same : x ≡ v = cc in
    false≢true (sym f.0 ∙ (ap (vector_eq v) same ∙ vector_eq_refl v))
absent v (x ∷ xs) none (suc q) at = absent v xs (either_false (vector_eq v x) (list_any (vector_eq v) xs) none).1 q at

last_one : (old new : List Vector) (v : Vector) (p : ℕ) → new ≡ old ++ v ∷ [] → slice_get new p ≡ Some v → p < length new → ((q : ℕ) → slice_get old q ≡ Some v → ⊥) → p ≡ length old
last_one old new v p is held within none = elim (cases_lt p (length old)) [
  | inl l ↦ absurd (none p (sym (front old (v ∷ []) p l) ∙ (ap (λ l. slice_get l p) (sym is) ∙ held)))
  | inr g ↦ let e : length new ≡ length old + 1 = ap length is ∙ length-append old (v ∷ []) in omega arith
]

by_test : (old new : List Vector) (v : Vector) (p : ℕ) (b : Bool) → list_any (vector_eq v) old ≡ b → new ≡ (if b then old else old ++ v ∷ [])
    → slice_get new p ≡ Some v → p < length new → Stands old new v p
by_test old new v p true is keys at within = record {
  at = at;
  found = λ l. keys;
  added = λ g. absurd (let e : length new ≡ length old = ap length keys in omega arith);
}
by_test old new v p false is keys at within =
    let e = last_one old new v p keys at within (absent v old is) in
    record { at = at; found = λ l. absurd (omega arith); added = λ g. (e, keys) }

pub stands : (old new : List Vector) (v k : Vector) (p : ℕ) → new ≡ (if list_any (vector_eq v) old then old else old ++ v ∷ [])
    → slice_get new p ≡ Some k → vector_eq v k ≡ true → p < length new → Stands old new v p
stands old new v k p keys at same within =
    by_test old new v p (list_any (vector_eq v) old) refl keys (rw (← vector_eq_sound v k same) at at) within
