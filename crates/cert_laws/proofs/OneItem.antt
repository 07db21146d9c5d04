-- A line tells one thing, and lines one list of things.
use Rattle.std.proofs.Common.{◌≡◌, ℕ, ◌<◌, ◌≤◌, ◌^◌, codes, List, [], ◌∷◌, ◌++◌, length, get_or, map, All, Some, refl, sym, ap, ◌∙◌, subst, arith, length-append}
use Rattle.std.specs.Prelude.{slice_get}
use Rattle.std.specs.Str.Parse.{AllDigits}
use Rattle.std.proofs.lemmas.Fmt.{decimal_is_IsNumeral}
use Rattle.std.proofs.lemmas.List.Elements.{All-cons, All-head, All-tail}
use Rattle.std.proofs.lemmas.Str.Parse.{tells_digits}
use Rattle.wx_text.specs.Decimal.{decimal}
use Rattle.flow_ctx.specs.declared.scope.Scope.{Scope}
use Rattle.flow_ctx.specs.declared.scope.Scope.TheVariants.{Run, Loop}
use Rattle.cert_lines.specs.declared.kind.Version.{Version}
use Rattle.cert_lines.specs.declared.kind.Version.TheVariants.{One, Two}
use Rattle.cert_lines.specs.declared.kind.Kind.{Kind}
use Rattle.cert_lines.specs.declared.kind.Kind.TheVariants as kind
use Rattle.cert_lines.specs.Grammar.{Line}
use Rattle.cert_items.specs.declared.item.Pair.{Pair}
use Rattle.cert_items.specs.declared.item.Item.{Item}
use Rattle.cert_items.specs.declared.item.Item.TheVariants as item
use Rattle.cert_items.specs.Said.{Fits, FitsScope, IsPlace, IsSaid, IsSlot, arguments, flat, kind_of, most, scope_word, version_word}
use Rattle.cert_items.specs.Faults.{AreItems, none, more}
use Rattle.spelling_laws.specs.Laws.{DecimalIsOne, WordIsOne}

first : {A : Type 0} {x y : A} {xs ys : List A} → x ∷ xs ≡ y ∷ ys → x ≡ y
first e = cc

later : {A : Type 0} {x y : A} {xs ys : List A} → x ∷ xs ≡ y ∷ ys → xs ≡ ys
later e = cc

-- ---- pairs
flat_same : (xs ys : List Pair) → flat xs ≡ flat ys → xs ≡ ys
flat_same [] [] e = refl
flat_same [] (y ∷ ys) e = absurd (cc)
flat_same (x ∷ xs) [] e = absurd (cc)
flat_same (x ∷ xs) (y ∷ ys) e =
    let left : x.left ≡ y.left = first e in
    let right : x.right ≡ y.right = first (later e) in
    let rest = flat_same xs ys (later (later e)) in
    λ i. record { left = left i; right = right i } ∷ rest i

abbrev AreSmall : List ℕ → Type 0
AreSmall numbers = All (λ n. n < 2 ^ 64) numbers

none_small : AreSmall []
none_small = λ k d inside. absurd (omega (arith, inside))

more_small : (n : ℕ) (numbers : List ℕ) → n < 2 ^ 64 → AreSmall numbers → AreSmall (n ∷ numbers)
more_small n numbers p all = All-cons (λ n. n < 2 ^ 64) n numbers p all

-- what is at most the greatest number of cycles has 64 bits
cycles : (n : ℕ) → n ≤ most → n < 2 ^ 64
cycles n p = omega (arith, p)

word_small : (n : ℕ) → n < 2 ^ 32 → n < 2 ^ 64
word_small n p = omega (arith, p)

slots_small : (pairs : List Pair) → All IsSlot pairs → AreSmall (flat pairs)
slots_small [] all = none_small
slots_small (p ∷ pairs) all =
    let here = All-head IsSlot p pairs all in
    more_small p.left (p.right ∷ flat pairs) (slot p.left here.slot) (more_small p.right (flat pairs) (cycles p.right here.value) (slots_small pairs (All-tail IsSlot p pairs all)))
  where
    slot : (n : ℕ) → n ≤ 34 → n < 2 ^ 64
    slot n p = omega (arith, p)

places_small : (pairs : List Pair) → All IsPlace pairs → AreSmall (flat pairs)
places_small [] all = none_small
places_small (p ∷ pairs) all =
    let here = All-head IsPlace p pairs all in
    more_small p.left (p.right ∷ flat pairs) (cycles p.left here.potential) (more_small p.right (flat pairs) (word_small p.right here.place) (places_small pairs (All-tail IsPlace p pairs all)))

-- no number is spelled `run`
run_is_no_number : (n : ℕ) → n < 2 ^ 32 → codes "run" ≡ decimal n → ⊥
run_is_no_number n small e =
    let digits : AllDigits 10 (codes "run") = subst (AllDigits 10) (sym e) (decimal_is_IsNumeral n (word_small n small)).0.1 in
    let letter = (tells_digits.parts 114 (117 ∷ 110 ∷ []) digits).0 in
    absurd (omega (arith, letter))

same_version : (v w : Version) → version_word v ≡ version_word w → v ≡ w
same_version One One e = refl
same_version Two Two e = refl
same_version One Two e = absurd (omega (arith, ap (λ (word : List ℕ). get_or word 0 0) e))
same_version Two One e = absurd (omega (arith, ap (λ (word : List ℕ). get_or word 0 0) e))

-- kinds by numbers, so that different kinds are told apart by arithmetic
abbrev number_of : Kind → ℕ
number_of kind.Head = 0
number_of kind.Node = 1
number_of kind.Vector = 2
number_of kind.Count = 3
number_of kind.Listed = 4
number_of kind.Places = 5
number_of kind.Charge = 6
number_of kind.Multiplier = 7
number_of kind.Total = 8
number_of kind.Bound = 9
number_of kind.End = 10

module _ (one_decimal : DecimalIsOne) (one_word : WordIsOne) where
  numbers : (xs ys : List ℕ) → AreSmall xs → AreSmall ys → map decimal xs ≡ map decimal ys → xs ≡ ys
  numbers [] [] p q e = refl
  numbers [] (y ∷ ys) p q e = absurd (cc)
  numbers (x ∷ xs) [] p q e = absurd (cc)
  numbers (x ∷ xs) (y ∷ ys) p q e =
      let here = one_decimal x y (All-head (λ n. n < 2 ^ 64) x xs p) (All-head (λ n. n < 2 ^ 64) y ys q) (first e) in
      let rest = numbers xs ys (All-tail (λ n. n < 2 ^ 64) x xs p) (All-tail (λ n. n < 2 ^ 64) y ys q) (later e) in
      λ i. here i ∷ rest i

  slots : (xs ys : List Pair) → All IsSlot xs → All IsSlot ys → map decimal (flat xs) ≡ map decimal (flat ys) → xs ≡ ys
  slots xs ys p q e = flat_same xs ys (numbers (flat xs) (flat ys) (slots_small xs p) (slots_small ys q) e)

  places : (xs ys : List Pair) → All IsPlace xs → All IsPlace ys → map decimal (flat xs) ≡ map decimal (flat ys) → xs ≡ ys
  places xs ys p q e = flat_same xs ys (numbers (flat xs) (flat ys) (places_small xs p) (places_small ys q) e)

  words : (m n : ℕ) → m < 2 ^ 32 → n < 2 ^ 32 → decimal m ≡ decimal n → m ≡ n
  words m n p q e = one_decimal m n (word_small m p) (word_small n q) e

  amounts : (m n : ℕ) → m ≤ most → n ≤ most → decimal m ≡ decimal n → m ≡ n
  amounts m n p q e = one_decimal m n (cycles m p) (cycles n q) e

  scopes : (a b : Scope) → FitsScope a → FitsScope b → scope_word a ≡ scope_word b → a ≡ b
  scopes Run Run p q e = refl
  scopes (Loop m) (Loop n) p q e = ap Loop (words m n p q e)
  scopes Run (Loop n) p q e = absurd (run_is_no_number n q e)
  scopes (Loop m) Run p q e = absurd (run_is_no_number m p (sym e))

  -- two lines of a kind with the same words tell the same
  same_item : (x y : Item) → Fits x → Fits y → number_of (kind_of x) ≡ number_of (kind_of y) → arguments x ≡ arguments y → x ≡ y
  same_item (item.Head v) (item.Head w) p q n e = ap item.Head (same_version v w (first e))
  same_item (item.Node a b) (item.Node c d) p q n e =
      let number = words a c p.0 q.0 (first e) in
      let count = words b d p.1 q.1 (first (later e)) in
      λ i. item.Node (number i) (count i)
  same_item (item.Vector a xs) (item.Vector b ys) p q n e =
      let potential = amounts a b p.0 q.0 (first e) in
      let pairs = slots xs ys p.1 q.1 (later e) in
      λ i. item.Vector (potential i) (pairs i)
  same_item (item.Count a) (item.Count b) p q n e = ap item.Count (words a b p q (first e))
  same_item (item.Listed xs) (item.Listed ys) p q n e = ap item.Listed (slots xs ys p q e)
  same_item (item.Places a xs) (item.Places b ys) p q n e =
      let number = words a b p.0 q.0 (first e) in
      let pairs = places xs ys p.1 q.1 (later e) in
      λ i. item.Places (number i) (pairs i)
  same_item (item.Charge a s x) (item.Charge b t y) p q n e =
      let line = one_word a b p.0 q.0 (first e) in
      let scope = scopes s t p.1 q.1 (first (later e)) in
      let amount = amounts x y p.2 q.2 (first (later (later e))) in
      λ i. item.Charge (line i) (scope i) (amount i)
  same_item (item.Multiplier a x) (item.Multiplier b y) p q n e =
      let number = words a b p.0 q.0 (first e) in
      let amount = amounts x y p.1 q.1 (first (later e)) in
      λ i. item.Multiplier (number i) (amount i)
  same_item (item.Total a x) (item.Total b y) p q n e =
      let address = one_word a b p.0 q.0 (first e) in
      let amount = amounts x y p.1 q.1 (first (later e)) in
      λ i. item.Total (address i) (amount i)
  same_item (item.Bound x) (item.Bound y) p q n e = ap item.Bound (amounts x y p q (first e))
  same_item item.End item.End p q n e = refl
  same_item x y p q n e = absurd (omega (arith, n))

  pub one_said : (line : Line) (x y : Item) → IsSaid line x → IsSaid line y → x ≡ y
  one_said line x y p q = same_item x y p.fits q.fits (ap number_of (p.says.0 ∙ sym q.says.0)) (sym p.says.1 ∙ q.says.1)

  pub same_line : (lines : List Line) (k : ℕ) (a b : Line) → slice_get lines k ≡ Some a → slice_get lines k ≡ Some b → a ≡ b
  same_line lines k a b p q = let e : Some a ≡ Some b = sym p ∙ q in cc

  -- the first so many lines tell one list
  pub one_list : (lines : List Line) (xs ys : List Item) → AreItems lines xs → AreItems lines ys → length xs ≡ length ys → xs ≡ ys
  one_list lines xs ys none none e = refl
  one_list lines xs ys none (more {items = bs} l y so here said ord) e = absurd (omega (arith, length-append bs (y ∷ []), e))
  one_list lines xs ys (more {items = bs} l y so here said ord) none e = absurd (omega (arith, length-append bs (y ∷ []), e))
  one_list lines xs ys (more {items = tells} k x so here said ord) (more {items = bs} l y so' here' said' ord') e =
      let long : length tells ≡ length bs = omega (arith, length-append tells (x ∷ []), length-append bs (y ∷ []), e) in
      let before = one_list lines tells bs so so' long in
      let line = same_line lines (length tells) k l here (ap (slice_get lines) long ∙ here') in
      let last = one_said k x y said (subst (λ j. IsSaid j y) (sym line) said') in
      λ i. before i ++ last i ∷ []
