-- Vectors among those that are sorted, and the lines that name them.
use Rattle.std.proofs.Common.{◌≡◌, ℕ, suc, ◌+◌, ◌<◌, ◌^◌, Bool, true, false, cond, ◌||◌, eqb, List, [], ◌∷◌, length, map, get_or, Some, None, refl, sym, ◌∙◌, ap, subst, arith, true≢false}
use Rattle.std.specs.Prelude.{slice_get, nat_lt}
use Rattle.std.specs.List.{list_all, list_any, AllByRecursion}
use Rattle.std.specs.Ordering.{is_eq}
use Rattle.std.specs.declared.cmp.Ordering.{Ordering}
use Rattle.std.specs.declared.cmp.Ordering.TheVariants.{Less, Equal, Greater}
use Rattle.std.specs.Char.{is_ascii_digit}
use Rattle.std.specs.Int.{IsInRange}
use Rattle.std.specs.Str.Parse.{AllDigits}
use Rattle.std.proofs.lemmas.Bool.{and_parts}
use Rattle.std.proofs.lemmas.Bool.Decides.{nat_tests}
use Rattle.std.proofs.lemmas.List.Sums.{take_while-cons}
use Rattle.std.proofs.lemmas.Option.{slice_get_within, get_or_from_slice_get}
use Rattle.std.proofs.lemmas.Str.Parse.{tells_digits}
use Rattle.std.proofs.lemmas.Fmt.{decimal_is_IsNumeral}
use Rattle.wx_text.specs.Decimal.{decimal}
use Rattle.wx_text.specs.Cursor.{leading_digits, number_at}
use Rattle.cert_items.specs.Said.{flat}
use Rattle.cert_items.specs.Order.{ascend, rights, seconds, writes, tells, are_placed}
use Rattle.cert_text.specs.declared.certificate.CertVector.{CertVector}
use Rattle.cert_text.specs.Pool.{is_same, is_listed, is_of, is_used, is_before, place_in}
use Rattle.cert_text.specs.Written.{place_of}
use Rattle.cert_text.specs.Writable.{ascend_behind}
use Rattle.cert_text.proofs.PoolLemmas.{compare, AreSorted, same_is, same_self, equal_same, less_is, less_greater, greater_less, chain, sorted_behind, lower, place_found}

-- ---- the place of a vector that is listed
greater_same : (a b : List ℕ) → compare a b ≡ Greater → is_same a b ≡ false
greater_same a b e = ap is_eq e

-- a vector that is listed does not come before the first
not_lower : (x slots : List ℕ) (pool : List (List ℕ)) → AreSorted (x ∷ pool) → is_listed slots (x ∷ pool) ≡ true → compare x slots ≡ Greater → ⊥
not_lower x slots pool s listed e = true≢false (sym listed ∙ lower slots x pool (greater_less x slots e) s)

listed_behind : (x slots : List ℕ) (pool : List (List ℕ)) → is_listed slots (x ∷ pool) ≡ true → compare x slots ≡ Less → is_listed slots pool ≡ true
listed_behind x slots pool listed e = sym (ap (λ b. b || is_listed slots pool) (greater_same slots x (less_greater x slots e))) ∙ listed

next_get : (x : List ℕ) (pool : List (List ℕ)) (n : ℕ) → slice_get (x ∷ pool) (n + 1) ≡ slice_get pool n
next_get x pool n = let e : n + 1 ≡ suc n = omega arith in ap (slice_get (x ∷ pool)) e

pub place_get : (pool : List (List ℕ)) (slots : List ℕ) → AreSorted pool → is_listed slots pool ≡ true → slice_get pool (place_in pool slots) ≡ Some slots
place_get [] slots s listed = absurd (true≢false (sym listed))
place_get (x ∷ pool) slots s listed = by (compare x slots) refl (place_get pool slots (sorted_behind x pool s))
  where
    by : (o : Ordering) → compare x slots ≡ o → (is_listed slots pool ≡ true → slice_get pool (place_in pool slots) ≡ Some slots) → slice_get (x ∷ pool) (place_in (x ∷ pool) slots) ≡ Some slots
    by Less e rest = rw e (next_get x pool (place_in pool slots) ∙ rest (listed_behind x slots pool listed e))
    by Equal e rest = rw e (ap Some (equal_same x slots e))
    by Greater e rest = absurd (not_lower x slots pool s listed e)

pub place_inside : (pool : List (List ℕ)) (slots : List ℕ) → AreSorted pool → is_listed slots pool ≡ true → place_in pool slots < length pool
place_inside pool slots s listed = slice_get_within pool (place_in pool slots) slots (place_get pool slots s listed)

compare_at : (pool : List (List ℕ)) (i : ℕ) (slots : List ℕ) → slice_get pool i ≡ Some slots → (d : List ℕ) → compare (get_or pool i d) slots ≡ Equal
compare_at pool i slots e d = ap (λ z. compare z slots) (get_or_from_slice_get pool i slots d e) ∙ equal_is (compare slots slots) (same_self slots)
  where
    equal_is : (o : Ordering) → is_eq o ≡ true → o ≡ Equal
    equal_is Less e = absurd (true≢false (sym e))
    equal_is Equal e = refl
    equal_is Greater e = absurd (true≢false (sym e))

pub place_of_get : (pool : List (List ℕ)) (i : ℕ) (slots : List ℕ) → AreSorted pool → slice_get pool i ≡ Some slots → place_in pool slots ≡ i
place_of_get pool i slots s e = place_found pool slots i s (slice_get_within pool i slots e) (compare_at pool i slots e)

pub place_less : (pool : List (List ℕ)) (a b : List ℕ) → AreSorted pool → is_listed a pool ≡ true → compare a b ≡ Less → place_in pool a < place_in pool b
place_less [] a b s listed less = absurd (true≢false (sym listed))
place_less (x ∷ pool) a b s listed less = by (compare x a) refl (λ here. place_less pool a b (sorted_behind x pool s) here less)
  where
    by : (o : Ordering) → compare x a ≡ o → (is_listed a pool ≡ true → place_in pool a < place_in pool b) → place_in (x ∷ pool) a < place_in (x ∷ pool) b
    by Less e rest =
        let n = rest (listed_behind x a pool listed e) in
        rw (e, chain x a b e less) (omega (arith, n))
    by Equal e rest =
        let first : compare x b ≡ Less = subst (λ z. compare z b ≡ Less) (sym (equal_same x a e)) less in
        rw (e, first) (omega arith)
    by Greater e rest = absurd (not_lower x a pool s listed e)

-- ---- the vectors of nodes are listed
abbrev pub AreListed : List (List ℕ) → List CertVector → Type 0
AreListed pool family = AllByRecursion (λ v. is_listed v.slots.slots pool ≡ true) family

pub or_left : (a b : Bool) → a ≡ true → (a || b) ≡ true
or_left a b e = ap (λ c. c || b) e

pub or_right : (a b : Bool) → b ≡ true → (a || b) ≡ true
or_right true b e = refl
or_right false b e = e

pub split : (a b : Bool) → (a || b) ≡ true → (C : Type 0) → (a ≡ true → C) → (b ≡ true → C) → C
split true b e C f g = f refl
split false b e C f g = g e

family_listed : (pool : List (List ℕ)) (family : List CertVector) → ((slots : List ℕ) → is_of slots family ≡ true → is_listed slots pool ≡ true) → AreListed pool family
family_listed pool [] f = tt
family_listed pool (v ∷ family) f = (
  f v.slots.slots (or_left (is_same v.slots.slots v.slots.slots) (is_of v.slots.slots family) (same_self v.slots.slots)),
  family_listed pool family (λ slots e. f slots (or_right (is_same slots v.slots.slots) (is_of slots family) e)),
)

pub all_listed : (pool : List (List ℕ)) (families : List (List CertVector)) → ((slots : List ℕ) → is_used slots families ≡ true → is_listed slots pool ≡ true) → AllByRecursion (AreListed pool) families
all_listed pool [] f = tt
all_listed pool (family ∷ families) f = (
  family_listed pool family (λ slots e. f slots (or_left (is_of slots family) (is_used slots families) e)),
  all_listed pool families (λ slots e. f slots (or_right (is_of slots family) (is_used slots families) e)),
)

-- ---- the places of a node
is_lower : (m n : ℕ) → m < n → nat_lt m n ≡ true
is_lower m n less = grind (arith, nat_tests)

places_below : (pool : List (List ℕ)) (family : List CertVector) → AreSorted pool → AreListed pool family → list_all (λ p. nat_lt p.right (length pool)) (map (place_of pool) family) ≡ true
places_below pool [] s listed = refl
places_below pool (v ∷ family) s listed = rw (is_lower (place_in pool v.slots.slots) (length pool) (place_inside pool v.slots.slots s listed.0)) (places_below pool family s listed.1)

places_behind : (pool : List (List ℕ)) (last : CertVector) (family : List CertVector) → AreSorted pool → is_listed last.slots.slots pool ≡ true → AreListed pool family → ascend_behind is_before (Some last) family ≡ true
    → ascend (Some (place_in pool last.slots.slots)) (rights (map (place_of pool) family)) ≡ true
places_behind pool last [] s here listed order = refl
places_behind pool last (v ∷ family) s here listed order =
    let parts = and_parts (is_before last v) (ascend_behind is_before (Some v) family) order in
    rw (is_lower (place_in pool last.slots.slots) (place_in pool v.slots.slots) (place_less pool last.slots.slots v.slots.slots s here (less_is (compare last.slots.slots v.slots.slots) parts.0)))
    (places_behind pool v family s listed.0 listed.1 parts.1)

places_ascend : (pool : List (List ℕ)) (family : List CertVector) → AreSorted pool → AreListed pool family → ascend_behind is_before None family ≡ true → ascend None (rights (map (place_of pool) family)) ≡ true
places_ascend pool [] s listed order = refl
places_ascend pool (v ∷ family) s listed order = places_behind pool v family s listed.0 listed.1 order

pub are_places : (pool : List (List ℕ)) (family : List CertVector) → AreSorted pool → AreListed pool family → ascend_behind is_before None family ≡ true → are_placed (length pool) (map (place_of pool) family) ≡ true
are_places pool family s listed order = rw (places_ascend pool family s listed order) (places_below pool family s listed)

-- ---- a place that is named
digit_is : (c : ℕ) → IsInRange 48 57 c → is_ascii_digit c ≡ true
digit_is c inside = grind (arith, nat_tests)

all_lead : (text : List ℕ) → AllDigits 10 text → leading_digits text ≡ text
all_lead [] digits = refl
all_lead (c ∷ text) digits =
    let parts = tells_digits.parts c text digits in
    take_while-cons is_ascii_digit c text ∙ ap (λ b. cond b (c ∷ leading_digits text) []) (digit_is c parts.0) ∙ ap (λ rest. c ∷ rest) (all_lead text parts.1)

pub number_at_is : (n : ℕ) → n < 2 ^ 64 → number_at (decimal n) ≡ Some n
number_at_is n small =
    let p = decimal_is_IsNumeral n small in
    let lead = all_lead (decimal n) p.0.1 in
    rw (lead, p.1, is_lower 0 (length (decimal n)) p.0.0, is_lower n (2 ^ 64) small) refl

pub equal_tests : (n : ℕ) → eqb n n ≡ true
equal_tests n = grind (arith, nat_tests)

pub writes_self : (n : ℕ) → n < 2 ^ 64 → writes n (decimal n) ≡ true
writes_self n small = ap (tells n) (number_at_is n small) ∙ equal_tests n

-- the words behind the colons of the pairs
pub named_in : (pool : List (List ℕ)) (family : List CertVector) (slots : List ℕ) (place : ℕ) → place < 2 ^ 64 → place_in pool slots ≡ place → is_of slots family ≡ true
    → list_any (writes place) (seconds (map decimal (flat (map (place_of pool) family)))) ≡ true
named_in pool [] slots place small e used = absurd (true≢false (sym used))
named_in pool (v ∷ family) slots place small e used = by (is_same slots v.slots.slots) refl (named_in pool family slots place small e)
  where
    by : (b : Bool) → is_same slots v.slots.slots ≡ b → (is_of slots family ≡ true → list_any (writes place) (seconds (map decimal (flat (map (place_of pool) family)))) ≡ true) → list_any (writes place) (seconds (map decimal (flat (map (place_of pool) (v ∷ family))))) ≡ true
    by true h rest =
        let here : place_in pool v.slots.slots ≡ place = ap (place_in pool) (sym (same_is slots v.slots.slots h)) ∙ e in
        or_left (writes place (decimal (place_in pool v.slots.slots))) (list_any (writes place) (seconds (map decimal (flat (map (place_of pool) family))))) (ap (λ n. writes place (decimal n)) here ∙ writes_self place small)
    by false h rest =
        or_right (writes place (decimal (place_in pool v.slots.slots))) (list_any (writes place) (seconds (map decimal (flat (map (place_of pool) family)))))
        (rest (sym (ap (λ b. b || is_of slots family) h) ∙ used))
