-- Pairs and their numbers one after another.
use Rattle.std.proofs.Common.{◌≡◌, ℕ, ◌+◌, ◌*◌, ◌%◌, ◌<◌, ◌≤◌, ◌^◌, List, [], ◌∷◌, ◌++◌, length, get_or, take, All, refl, sym, ◌∙◌, ap, subst, arith, append_assoc}
use Rattle.std.proofs.lemmas.List.{take_more}
use Rattle.std.proofs.lemmas.List.Elements.{All-cons, All-nil, All-head, All-tail}
use Rattle.cert_items.specs.declared.item.Pair.{Pair}
use Rattle.std.specs.Prelude.{codes}
use Rattle.std.specs.Str.Parse.{AllDigits}
use Rattle.std.proofs.lemmas.Fmt.{decimal_is_IsNumeral}
use Rattle.std.proofs.lemmas.Str.Parse.{tells_digits}
use Rattle.flow_ctx.specs.declared.scope.Scope.{Scope}
use Rattle.flow_ctx.specs.declared.scope.Scope.TheVariants.{Run, Loop}
use Rattle.cert_items.specs.Said.{flat, most, IsSlot, IsPlace, scope_word, FitsScope}

pub flat_length : (pairs : List Pair) → length (flat pairs) ≡ 2 * length pairs
flat_length [] = refl
flat_length (p ∷ pairs) = let n = flat_length pairs in omega (arith, n)

pub flat_push : (pairs : List Pair) (p : Pair) → flat (pairs ++ p ∷ []) ≡ flat pairs ++ p.left ∷ p.right ∷ []
flat_push [] p = refl
flat_push (q ∷ pairs) p = ap (λ l. q.left ∷ q.right ∷ l) (flat_push pairs p)

same_cons : {X : Type 0} (x y : X) (xs ys : List X) → x ∷ xs ≡ y ∷ ys → (x ≡ y) × (xs ≡ ys)
same_cons x y xs ys e = (cc, cc)

same_pair : (p q : Pair) → p.left ≡ q.left → p.right ≡ q.right → p ≡ q
same_pair p q e h =
    let first : p ≡ record { left = q.left; right = p.right } = ap (λ l. record { left = l; right = p.right }) e in
    first ∙ ap (λ r. record { left = q.left; right = r }) h

pub flat_same : (xs ys : List Pair) → flat xs ≡ flat ys → xs ≡ ys
flat_same [] [] e = refl
flat_same [] (y ∷ ys) e = absurd (cc)
flat_same (x ∷ xs) [] e = absurd (cc)
flat_same (x ∷ xs) (y ∷ ys) e =
    let one = same_cons x.left y.left (x.right ∷ flat xs) (y.right ∷ flat ys) e in
    let two = same_cons x.right y.right (flat xs) (flat ys) one.1 in
    ap (λ z. z ∷ xs) (same_pair x y one.0 two.0) ∙ ap (λ l. y ∷ l) (flat_same xs ys two.1)

-- two numbers more
pub pair_more : (numbers : List ℕ) (at : ℕ) (pairs : List Pair) (p : Pair) → 2 * at + 1 < length numbers → flat pairs ≡ take (2 * at) numbers → p.left ≡ get_or numbers (2 * at) 0 → p.right ≡ get_or numbers (2 * at + 1) 0
    → flat (pairs ++ p ∷ []) ≡ take (2 * (at + 1)) numbers
pair_more numbers at pairs p inside so left right =
    let n : 2 * (at + 1) ≡ 2 * at + 1 + 1 = omega arith in
    let one : take (2 * at + 1) numbers ≡ take (2 * at) numbers ++ get_or numbers (2 * at) 0 ∷ [] = take_more numbers (2 * at) 0 (omega arith) in
    let two : take (2 * at + 1 + 1) numbers ≡ take (2 * at + 1) numbers ++ get_or numbers (2 * at + 1) 0 ∷ [] = take_more numbers (2 * at + 1) 0 inside in
    rw (flat_push pairs p, so, left, right, n, two, one, append_assoc) refl

-- an odd number of numbers is that of no pairs
pub odd : (pairs : List Pair) (numbers : List ℕ) → flat pairs ≡ numbers → length numbers % 2 ≡ 0
odd pairs numbers e = let n = sym (ap length e) ∙ flat_length pairs in omega (arith, n)

small : (n : ℕ) → n ≤ most → n < 2 ^ 64
small n h = omega (arith, h)

pub slots_small : (pairs : List Pair) → All IsSlot pairs → All (λ n. n < 2 ^ 64) (flat pairs)
slots_small [] all = All-nil (λ n. n < 2 ^ 64)
slots_small (p ∷ pairs) all =
    let here = All-head IsSlot p pairs all in
    All-cons (λ n. n < 2 ^ 64) p.left (p.right ∷ flat pairs) (omega (arith, here.slot)) (All-cons (λ n. n < 2 ^ 64) p.right (flat pairs) (small p.right here.value) (slots_small pairs (All-tail IsSlot p pairs all)))

pub places_small : (pairs : List Pair) → All IsPlace pairs → All (λ n. n < 2 ^ 64) (flat pairs)
places_small [] all = All-nil (λ n. n < 2 ^ 64)
places_small (p ∷ pairs) all =
    let here = All-head IsPlace p pairs all in
    All-cons (λ n. n < 2 ^ 64) p.left (p.right ∷ flat pairs) (small p.left here.potential) (All-cons (λ n. n < 2 ^ 64) p.right (flat pairs) (omega (arith, here.place)) (places_small pairs (All-tail IsPlace p pairs all)))

-- no number is spelled `run`
pub scope_run : (s : Scope) → FitsScope s → codes "run" ≡ scope_word s → s ≡ Run
scope_run Run fits e = refl
scope_run (Loop n) fits e =
    let digits : AllDigits 10 (codes "run") = subst (AllDigits 10) (sym e) (decimal_is_IsNumeral n (omega arith)).0.1 in
    let first = (tells_digits.parts 114 (117 ∷ 110 ∷ []) digits).0 in
    absurd (omega (arith, first))
