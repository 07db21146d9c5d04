-- A set of rows takes one more at its end, if it is not there.
use Rattle.std.proofs.Common.{◌≡◌, ℕ, zero, suc, ◌+◌, ◌<◌, ◌⊎◌, Bool, true, false, List, [], ◌∷◌, ◌++◌, length, slice_get, get_or, Some, refl, sym, ap, ◌∙◌, inl, inr, arith, if◌then◌else◌, length-append, eqb, ◌&&◌, Decides}
use Rattle.std.specs.List.{IsDistinct}
use Rattle.std.proofs.lemmas.Bool.{false≢true, cases_lt}
use Rattle.std.proofs.lemmas.Bool.Decides.{nat_tests}
use Rattle.std.proofs.lemmas.Map.Keys.{apart_from_distinct}
use Rattle.std.proofs.lemmas.Option.{slice_get_within, get_or_from_slice_get, same_Some}
use Rattle.std.proofs.lemmas.Slice.Eq.{bytes_eq-Decides, slice_eq-Decides}
use Rattle.std.specs.Cmp.Lexicographic.{pointwise}
use mathlib.Core.Bool.{beq}
use Rattle.xdd_table.specs.declared.node.Dd.{Dd}
use Rattle.pipe_block.specs.declared.row.Row.{Row}
use Rattle.pipe_block.specs.declared.row.Bundle.{Bundle}
use Rattle.pipe_block.specs.declared.state.State.{State}
use Rattle.pipe_block.specs.Rows.{Extends}
use Rattle.pipe_block.specs.contracts.row.RowPartialEq.TheImpl.{eq-value}
use Rattle.pipe_block.specs.contracts.row.BundlePartialEq.TheImpl.{eq-value as bundle-value}
use Rattle.pipe_block.specs.contracts.state.StatePartialEq.TheImpl.{eq-value as state-value}

both_true : (a b : Bool) → (a && b) ≡ true → (a ≡ true) × (b ≡ true)
both_true true b h = (refl, h)
both_true false b h = absurd (false≢true h)

number_same : (a b : ℕ) → eqb a b ≡ true → a ≡ b
number_same a b h = grind (arith, nat_tests)

number_itself : (a : ℕ) → eqb a a ≡ true
number_itself a = grind (arith, nat_tests)

unfoldable pub row_eq : Row → Row → Bool
row_eq = eq-value.it

pub row_eq_sound : (a b : Row) → row_eq a b ≡ true → a ≡ b
unfolding row_eq
row_eq_sound a b h =
    let w = both_true (eqb a.number b.number) (pointwise eqb a.slots b.slots) h in
    let n : a.number ≡ b.number = number_same a.number b.number w.0 in
    let s : a.slots ≡ b.slots = (bytes_eq-Decides a.slots b.slots).0 w.1 in
    rw (n, s) refl

pub row_eq_refl : (a : Row) → row_eq a a ≡ true
unfolding row_eq
row_eq_refl a = rw (number_itself a.number, (bytes_eq-Decides a.slots a.slots).1 refl) refl

unfoldable pub bundle_eq : Bundle → Bundle → Bool
bundle_eq = bundle-value.it

unfoldable pub state_eq : State → State → Bool
state_eq = state-value.it

module _ {A : Type 0} (e : A → A → Bool) (itself : (x : A) → e x x ≡ true) (xs : List A) (distinct : IsDistinct e xs) where
  apart : (i j : ℕ) (x : A) → slice_get xs i ≡ Some x → slice_get xs j ≡ Some x → i < j → ⊥
  apart i j x at at' less =
      let d : e (get_or xs i x) (get_or xs j x) ≡ false = apart_from_distinct e xs i j x distinct less (slice_get_within xs j x at') in
      let d' = rw (get_or_from_slice_get xs i x x at, get_or_from_slice_get xs j x x at') at d in
      false≢true (sym d' ∙ itself x)

  pub one_place : (i j : ℕ) (x : A) → slice_get xs i ≡ Some x → slice_get xs j ≡ Some x → i ≡ j
  one_place i j x at at' = elim (cases_lt i j) [
    | inl l ↦ absurd (apart i j x at at' l)
    | inr g ↦ elim (cases_lt j i) [ inl l ↦ absurd (apart j i x at' at l) | inr g' ↦ omega arith ]
  ]

pub front : {A : Type 0} (xs ys : List A) (p : ℕ) → p < length xs → slice_get (xs ++ ys) p ≡ slice_get xs p
front [] ys p h = absurd (omega arith)
front (x ∷ xs) ys zero h = refl
front (x ∷ xs) ys (suc p) h = front xs ys p (omega arith)

pub end : {A : Type 0} (xs : List A) (y : A) → slice_get (xs ++ y ∷ []) (length xs) ≡ Some y
end [] y = refl
end (x ∷ xs) y = end xs y

-- the rows after one is inserted
pub extends_by : (old new : List Row) (row : Row) (b : Bool) → new ≡ (if b then old else old ++ row ∷ []) → Extends old new
extends_by old new row true is = record { kept = λ i r at. rw is at }
extends_by old new row false is = record { kept = λ i r at. rw is (front old (row ∷ []) i (slice_get_within old i r at) ∙ at) }

pub only_one_more : (old new : List Row) (row : Row) (b : Bool) → new ≡ (if b then old else old ++ row ∷ []) → (i : ℕ) (r : Row) → slice_get new i ≡ Some r → (slice_get old i ≡ Some r) ⊎ (r ≡ row)
only_one_more old new row true is i r at = inl (rw is at at)
only_one_more old new row false is i r at = elim (cases_lt i (length old)) [
  | inl l ↦ inl (sym (front old (row ∷ []) i l) ∙ rw is at at)
  | inr g ↦
      let at' : slice_get (old ++ row ∷ []) i ≡ Some r = rw is at at in
      let within : i < length (old ++ row ∷ []) = slice_get_within (old ++ row ∷ []) i r at' in
      let long : length (old ++ row ∷ []) ≡ length old + 1 = length-append old (row ∷ []) in
      let same : length old ≡ i = omega arith in
      inr (same_Some r row (sym (rw (← same) at at') ∙ end old row))
]

bools_same : (a b : Bool) → beq a b ≡ true → a ≡ b
bools_same true true h = refl
bools_same true false h = absurd (false≢true h)
bools_same false true h = absurd (false≢true h)
bools_same false false h = refl

pub state_eq_sound : (a b : State) → state_eq a b ≡ true → a ≡ b
unfolding state_eq
state_eq_sound a b h =
    let w = both_true (eqb a.at b.at) (eqb a.decided b.decided && (beq a.miss b.miss && (beq a.slow b.slow && pointwise eqb a.slots b.slots))) h in
    let x = both_true (eqb a.decided b.decided) (beq a.miss b.miss && (beq a.slow b.slow && pointwise eqb a.slots b.slots)) w.1 in
    let y = both_true (beq a.miss b.miss) (beq a.slow b.slow && pointwise eqb a.slots b.slots) x.1 in
    let z = both_true (beq a.slow b.slow) (pointwise eqb a.slots b.slots) y.1 in
    let e : a.at ≡ b.at = number_same a.at b.at w.0 in
    let e' : a.decided ≡ b.decided = number_same a.decided b.decided x.0 in
    let f : a.miss ≡ b.miss = bools_same a.miss b.miss y.0 in
    let f' : a.slow ≡ b.slow = bools_same a.slow b.slow z.0 in
    let s : a.slots ≡ b.slots = (bytes_eq-Decides a.slots b.slots).0 z.1 in
    rw (e, e', f, f', s) refl

abbrev same_dd : Dd → Dd → Bool
same_dd a b = eqb a.place b.place

dd_decides : (a b : Dd) → Decides (same_dd a b) (a ≡ b)
dd_decides a b = (λ h. ap (λ p. record { place = p }) (number_same a.place b.place h), λ e. rw e (number_itself b.place))

pub bundle_eq_sound : (a b : Bundle) → bundle_eq a b ≡ true → a ≡ b
unfolding bundle_eq
bundle_eq_sound a b h =
    let w = both_true (same_dd a.number b.number) (pointwise same_dd a.slots b.slots) h in
    let n : a.number ≡ b.number = (dd_decides a.number b.number).0 w.0 in
    let s : a.slots ≡ b.slots = (slice_eq-Decides {E = same_dd} dd_decides a.slots b.slots (pointwise same_dd a.slots b.slots) refl).0 w.1 in
    rw (n, s) refl
