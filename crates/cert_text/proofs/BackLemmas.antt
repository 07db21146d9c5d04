-- Pairs in order are the slots of their vector that are not 0.
use Rattle.std.proofs.Common.{◌≡◌, ℕ, zero, suc, ◌+◌, ◌<◌, ◌≤◌, Bool, true, false, cond, not, ◌==◌, List, [], ◌∷◌, ◌++◌, length, set, replicate, All, Some, None, refl, sym, ◌∙◌, ap, arith, append_assoc, ⊎_elim}
use Rattle.std.specs.Prelude.{nat_lt}
use Rattle.std.specs.List.{list_all}
use Rattle.std.proofs.lemmas.Bool.{and_parts, cases_lt}
use Rattle.std.proofs.lemmas.Bool.Decides.{nat_tests}
use Rattle.std.proofs.lemmas.List.{length-append}
use Rattle.std.proofs.lemmas.List.Elements.{All-head, All-tail}
use Rattle.cert_items.specs.declared.item.Pair.{Pair}
use Rattle.cert_items.specs.Said.{IsSlot}
use Rattle.cert_items.specs.Order.{ascend, lefts, are_in_order, slots_of}
use Rattle.cert_text.specs.Written.{pairs_from}
use Rattle.cert_text.proofs.PairLemmas.{fill, set_here}

-- the numbers before the colons ascend from one on and are below another, and no value is 0
pub data Climbs (most : ℕ) : ℕ → List Pair → Type 0 where
  none : {from : ℕ} → Climbs most from []
  more : {from : ℕ} {pairs : List Pair} (p : Pair) → from ≤ p.left → p.left < most → (p.right == 0) ≡ false → Climbs most (p.left + 1) pairs → Climbs most from (p ∷ pairs)

lower : (m n : ℕ) → nat_lt m n ≡ true → m < n
lower m n e = grind (arith, nat_tests)

not_true : (b : Bool) → not b ≡ true → b ≡ false
not_true true e = sym e
not_true false e = refl

climbs_behind : (last : ℕ) (pairs : List Pair) → ascend (Some last) (lefts pairs) ≡ true → list_all (λ p. not (p.right == 0)) pairs ≡ true → All IsSlot pairs → Climbs 35 (last + 1) pairs
climbs_behind last [] up some fit = none
climbs_behind last (p ∷ pairs) up some fit =
    let one = and_parts (nat_lt last p.left) (ascend (Some p.left) (lefts pairs)) up in
    let two = and_parts (not (p.right == 0)) (list_all (λ p. not (p.right == 0)) pairs) some in
    let n = lower last p.left one.0 in
    let slot = (All-head IsSlot p pairs fit).slot in
    more p (omega (arith, n)) (omega (arith, slot)) (not_true (p.right == 0) two.0) (climbs_behind p.left pairs one.1 two.1 (All-tail IsSlot p pairs fit))

climbs_of : (pairs : List Pair) → are_in_order pairs ≡ true → All IsSlot pairs → Climbs 35 0 pairs
climbs_of [] order fit = none
climbs_of (p ∷ pairs) order fit =
    let one = and_parts (ascend None (lefts (p ∷ pairs))) (list_all (λ p. not (p.right == 0)) (p ∷ pairs)) order in
    let two = and_parts (not (p.right == 0)) (list_all (λ p. not (p.right == 0)) pairs) one.1 in
    let slot = (All-head IsSlot p pairs fit).slot in
    more p (omega arith) (omega (arith, slot)) (not_true (p.right == 0) two.0) (climbs_behind p.left pairs one.0 two.1 (All-tail IsSlot p pairs fit))

-- what stands in the slots behind a front
record IsFilled (front : List ℕ) (n : ℕ) (pairs : List Pair) : Type 0 where
  values : List ℕ
  is : fill (front ++ replicate n 0) pairs ≡ front ++ values
  again : pairs_from (length front) values ≡ pairs

push_long : (front : List ℕ) (v : ℕ) → length (front ++ v ∷ []) ≡ length front + 1
push_long front v = length-append front (v ∷ [])

-- a slot that is 0
zero_next : (front : List ℕ) (n : ℕ) (pairs : List Pair) → IsFilled (front ++ 0 ∷ []) n pairs → IsFilled front (suc n) pairs
zero_next front n pairs f = record {
  values = 0 ∷ f.values;
  is = ap (λ (l : List ℕ). fill l pairs) (sym (append_assoc front (0 ∷ []) (replicate n 0))) ∙ f.is ∙ append_assoc front (0 ∷ []) f.values;
  again = ap (λ k. pairs_from k f.values) (sym (push_long front 0)) ∙ f.again;
}

-- a slot that the first pair names
value_next : (front : List ℕ) (n : ℕ) (p : Pair) (pairs : List Pair) → p.left ≡ length front → (p.right == 0) ≡ false → IsFilled (front ++ p.right ∷ []) n pairs → IsFilled front (suc n) (p ∷ pairs)
value_next front n p pairs here some f = record {
  values = p.right ∷ f.values;
  is = ap (λ k. fill (set (front ++ 0 ∷ replicate n 0) k p.right) pairs) here
      ∙ ap (λ (l : List ℕ). fill l pairs) (set_here front 0 p.right (replicate n 0) ∙ sym (append_assoc front (p.right ∷ []) (replicate n 0))) ∙ f.is ∙ append_assoc front (p.right ∷ []) f.values;
  again = ap (λ b. cond b (pairs_from (length front + 1) f.values) (record { left = length front; right = p.right } ∷ pairs_from (length front + 1) f.values)) some
      ∙ ap (λ k. record { left = k; right = p.right } ∷ pairs_from (length front + 1) f.values) (sym here)
      ∙ ap (λ (l : List Pair). p ∷ l) (ap (λ k. pairs_from k f.values) (sym (push_long front p.right)) ∙ f.again);
}

climbs_from : (most from to : ℕ) (pairs : List Pair) → to ≤ from → Climbs most from pairs → Climbs most to pairs
climbs_from most from to [] order none = none
climbs_from most from to (p ∷ pairs) order (more q low high some rest) = more p (omega (arith, order, low)) high some rest

filled_by : (front : List ℕ) (n most : ℕ) (pairs : List Pair) → length front + n ≡ most → Climbs most (length front) pairs → IsFilled front n pairs
filled_by front zero most [] size none = record { values = []; is = refl; again = refl }
filled_by front zero most (p ∷ pairs) size (more q low high some rest) = absurd (omega (arith, size, low, high))
filled_by front (suc n) most [] size none = zero_next front n [] (filled_by (front ++ 0 ∷ []) n most [] (let m = push_long front 0 in omega (arith, m, size)) none)
filled_by front (suc n) most (p ∷ pairs) size (more q low high some rest) =
    ⊎_elim
    (λ less. zero_next front n (p ∷ pairs) (filled_by (front ++ 0 ∷ []) n most (p ∷ pairs) (let m = push_long front 0 in omega (arith, m, size)) (more p (let m = push_long front 0 in omega (arith, m, less)) high some rest)))
    (λ not_less.
    let here : p.left ≡ length front = omega (arith, not_less, low) in
    let m = push_long front p.right in
    value_next front n p pairs here some (filled_by (front ++ p.right ∷ []) n most pairs (omega (arith, m, size)) (climbs_from most (p.left + 1) (length (front ++ p.right ∷ [])) pairs (omega (arith, m, here)) rest)))
    (cases_lt (length front) p.left)

pub pairs_again : (pairs : List Pair) → are_in_order pairs ≡ true → All IsSlot pairs → pairs_from 0 (slots_of pairs) ≡ pairs
pairs_again pairs order fit =
    let f = filled_by [] 35 35 pairs refl (climbs_of pairs order fit) in
    ap (pairs_from 0) f.is ∙ f.again
