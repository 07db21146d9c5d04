-- The slots of a vector that are not 0, and the vector that they are.
use Rattle.std.proofs.Common.{◌≡◌, ℕ, ◌+◌, ◌<◌, ◌≤◌, Bool, true, false, cond, not, ◌==◌, List, [], ◌∷◌, ◌++◌, length, set, replicate, All, Some, None, refl, sym, ◌∙◌, ap, arith, append_assoc}
use Rattle.std.specs.Prelude.{Option, fold}
use Rattle.std.specs.List.{list_all}
use Rattle.std.proofs.lemmas.Bool.Decides.{nat_tests}
use Rattle.std.proofs.lemmas.List.{length-append}
use Rattle.std.proofs.lemmas.List.Elements.{All-head, All-tail, All-cons, All-nil}
use Rattle.cert_items.specs.declared.item.Pair.{Pair}
use Rattle.cert_items.specs.Said.{most, IsSlot}
use Rattle.cert_items.specs.Order.{above, ascend, lefts, are_in_order, slots_of}
use Rattle.cert_text.specs.Written.{pairs_from}

zero_is : (value : ℕ) → (value == 0) ≡ true → value ≡ 0
zero_is value e = grind (arith, nat_tests)

some_is : (value : ℕ) → (value == 0) ≡ false → not (value == 0) ≡ true
some_is value e = ap not e

-- ---- the pairs are those of a vector, in order
all_some : (slot : ℕ) (values : List ℕ) → list_all (λ p. not (p.right == 0)) (pairs_from slot values) ≡ true
all_some slot [] = refl
all_some slot (value ∷ values) = by (value == 0) refl (all_some (slot + 1) values)
  where
    by : (b : Bool) → (value == 0) ≡ b → list_all (λ p. not (p.right == 0)) (pairs_from (slot + 1) values) ≡ true → list_all (λ p. not (p.right == 0)) (cond b (pairs_from (slot + 1) values) (record { left = slot; right = value } ∷ pairs_from (slot + 1) values)) ≡ true
    by true e rest = rest
    by false e rest = rw e rest

-- the number comes behind the one before it, if there is one
abbrev Behind : Option ℕ → ℕ → Type 0
Behind None slot = Unit {0}
Behind (Some m) slot = m < slot

above_is : (last : Option ℕ) (slot : ℕ) → Behind last slot → above last slot ≡ true
above_is None slot h = refl
above_is (Some m) slot h = grind (arith, nat_tests)

behind_next : (last : Option ℕ) (slot : ℕ) → Behind last slot → Behind last (slot + 1)
behind_next None slot h = tt
behind_next (Some m) slot h = omega (arith, h)

lefts_rise : (last : Option ℕ) (slot : ℕ) (values : List ℕ) → Behind last slot → ascend last (lefts (pairs_from slot values)) ≡ true
lefts_rise last slot [] h = refl
lefts_rise last slot (value ∷ values) h = by (value == 0) (lefts_rise last (slot + 1) values (behind_next last slot h)) (lefts_rise (Some slot) (slot + 1) values (omega arith))
  where
    by : (b : Bool) → ascend last (lefts (pairs_from (slot + 1) values)) ≡ true → ascend (Some slot) (lefts (pairs_from (slot + 1) values)) ≡ true → ascend last (lefts (cond b (pairs_from (slot + 1) values) (record { left = slot; right = value } ∷ pairs_from (slot + 1) values))) ≡ true
    by true one two = one
    by false one two = rw (above_is last slot h) two

pub pairs_in_order : (values : List ℕ) → are_in_order (pairs_from 0 values) ≡ true
pairs_in_order values = rw (lefts_rise None 0 values tt) (all_some 0 values)

pairs_fit : (slot : ℕ) (values : List ℕ) → slot + length values ≤ 35 → All (λ value. value ≤ most) values → All IsSlot (pairs_from slot values)
pairs_fit slot [] size all = All-nil IsSlot
pairs_fit slot (value ∷ values) size all = by (value == 0) (pairs_fit (slot + 1) values (omega (arith, size)) (All-tail (λ value. value ≤ most) value values all))
  where
    by : (b : Bool) → All IsSlot (pairs_from (slot + 1) values) → All IsSlot (cond b (pairs_from (slot + 1) values) (record { left = slot; right = value } ∷ pairs_from (slot + 1) values))
    by true rest = rest
    by false rest = All-cons IsSlot (record { left = slot; right = value }) (pairs_from (slot + 1) values) (record { slot = omega (arith, size); value = All-head (λ value. value ≤ most) value values all }) rest

pub slots_fit : (values : List ℕ) → length values ≡ 35 → All (λ value. value ≤ most) values → All IsSlot (pairs_from 0 values)
slots_fit values size all = pairs_fit 0 values (omega (arith, size)) all

-- ---- the vector of the pairs
pub set_here : (front : List ℕ) (old value : ℕ) (behind : List ℕ) → set (front ++ old ∷ behind) (length front) value ≡ front ++ value ∷ behind
set_here [] old value behind = refl
set_here (x ∷ front) old value behind = ap (λ l. x ∷ l) (set_here front old value behind)

abbrev pub fill : List ℕ → List Pair → List ℕ
fill slots pairs = fold (λ slots p. set slots p.left p.right) slots pairs

-- the values behind one that is put
fill_next : (front values : List ℕ) (v : ℕ) → fill ((front ++ v ∷ []) ++ replicate (length values) 0) (pairs_from (length (front ++ v ∷ [])) values) ≡ (front ++ v ∷ []) ++ values
    → fill (front ++ v ∷ replicate (length values) 0) (pairs_from (length front + 1) values) ≡ front ++ v ∷ values
fill_next front values v rest =
    ap (λ n. fill (front ++ v ∷ replicate (length values) 0) (pairs_from n values)) (sym (length-append front (v ∷ [])))
    ∙ ap (λ (l : List ℕ). fill l (pairs_from (length (front ++ v ∷ [])) values)) (sym (append_assoc front (v ∷ []) (replicate (length values) 0)))
    ∙ rest ∙ append_assoc front (v ∷ []) values

filled : (front values : List ℕ) → fill (front ++ replicate (length values) 0) (pairs_from (length front) values) ≡ front ++ values
filled front [] = refl
filled front (value ∷ values) = by (value == 0) refl (λ v. fill_next front values v (filled (front ++ v ∷ []) values))
  where
    by : (b : Bool) → (value == 0) ≡ b → ((v : ℕ) → fill (front ++ v ∷ replicate (length values) 0) (pairs_from (length front + 1) values) ≡ front ++ v ∷ values)
        → fill (front ++ 0 ∷ replicate (length values) 0) (cond b (pairs_from (length front + 1) values) (record { left = length front; right = value } ∷ pairs_from (length front + 1) values)) ≡ front ++ value ∷ values
    by true e rest = rest 0 ∙ ap (λ v. front ++ v ∷ values) (sym (zero_is value e))
    by false e rest = ap (λ (l : List ℕ). fill l (pairs_from (length front + 1) values)) (set_here front 0 value (replicate (length values) 0)) ∙ rest value

pub slots_again : (values : List ℕ) → length values ≡ 35 → slots_of (pairs_from 0 values) ≡ values
slots_again values size = ap (λ n. fold (λ slots p. set slots p.left p.right) (replicate n 0) (pairs_from 0 values)) (sym size) ∙ filled [] values
