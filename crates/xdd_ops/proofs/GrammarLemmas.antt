-- A text has one reading: the number that it announces, and its lines one after another.
use Rattle.std.proofs.Common.{◌≡◌, ℕ, zero, suc, ◌<◌, ◌≤◌, ◌^◌, List, [], ◌∷◌, ◌++◌, length, drop, get_or, slice_get, Some, refl, sym, ap, ◌∙◌, arith, inl, inr, append_assoc, length-drop}
use Rattle.std.proofs.lemmas.Bool.{cases_lt}
use Rattle.std.proofs.lemmas.Fmt.{decimal_injective}
use Rattle.std.proofs.lemmas.Option.{slice_get_within}
use Rattle.std.specs.Fmt.{decimal}
use Rattle.wx_text.specs.Cursor.{leading_digits}
use Rattle.xdd_table.specs.declared.node.Node.{Node}
use Rattle.xdd_table.specs.declared.node.Node.TheVariants.{Leaf, Branch}
use Rattle.xdd_ops.specs.Read.{line_text, lines_text, count_line, IsLineAt, AreLines, HasLines}
use Rattle.xdd_ops.specs.Refusal.{IsFront, BeginsWithLine, HasNoCount, LacksLine, GoesOn, IsSyntaxPlace}
use Rattle.xdd_ops.proofs.NumberLemmas.{digits_again, no_digits, drop_front, regroup}
use Rattle.xdd_ops.proofs.ReadLemmas.{slice_get-front, append_none}
use Rattle.xdd_ops.proofs.LineLemmas.{dd_same}

-- a number whose digits end where the rest of its text begins
one_number : (m n : ℕ) (s t : List ℕ) → m < 2 ^ 64 → n < 2 ^ 64 → leading_digits s ≡ [] → leading_digits t ≡ [] → decimal m ++ s ≡ decimal n ++ t → (m ≡ n) × (s ≡ t)
one_number m n s t small small' none none' e =
    let a = digits_again m s small (no_digits s none) in
    let b = digits_again n t small' (no_digits t none') in
    let same : decimal m ≡ decimal n = sym a ∙ (ap leading_digits e ∙ b) in
    let behind : drop (length (decimal m)) (decimal n ++ t) ≡ t = rw same (drop_front (decimal n) t) in
    (decimal_injective m n small small' same, sym (drop_front (decimal m) s) ∙ (ap (drop (length (decimal m))) e ∙ behind))

-- a line whose numbers fit 64 bits
abbrev pub FitsWords : Node → Type 0
FitsWords (Leaf t) = t < 2 ^ 64
FitsWords (Branch e hit miss) = (e < 2 ^ 64) × (hit.place < 2 ^ 64) × (miss.place < 2 ^ 64)

one_line : (x y : Node) (s t : List ℕ) → FitsWords x → FitsWords y → line_text x ++ s ≡ line_text y ++ t → (x ≡ y) × (s ≡ t)
one_line (Leaf a) (Leaf b) s t w v e =
    let n = one_number a b (10 ∷ s) (10 ∷ t) w v refl refl (sym (append_assoc (decimal a) (10 ∷ []) s) ∙ (ap (drop 5) e ∙ append_assoc (decimal b) (10 ∷ []) t)) in
    (ap Leaf n.0, ap (drop 1) n.1)
one_line (Leaf a) (Branch e' hit miss) s t w v e = let first : 108 ≡ 98 = ap (λ l. get_or l 0 0) e in absurd (omega (arith, first))
one_line (Branch e' hit miss) (Leaf b) s t w v e = let first : 98 ≡ 108 = ap (λ l. get_or l 0 0) e in absurd (omega (arith, first))
one_line (Branch e1 h1 m1) (Branch e2 h2 m2) s t w v e =
    let a = regroup (decimal e1) (decimal h1.place) (decimal m1.place) s 32 32 10 in
    let b = regroup (decimal e2) (decimal h2.place) (decimal m2.place) t 32 32 10 in
    let k = one_number e1 e2 (32 ∷ (decimal h1.place ++ 32 ∷ (decimal m1.place ++ 10 ∷ s))) (32 ∷ (decimal h2.place ++ 32 ∷ (decimal m2.place ++ 10 ∷ t))) w.0 v.0 refl refl (sym a ∙ (ap (drop 7) e ∙ b)) in
    let l = one_number h1.place h2.place (32 ∷ (decimal m1.place ++ 10 ∷ s)) (32 ∷ (decimal m2.place ++ 10 ∷ t)) w.1 v.1 refl refl (ap (drop 1) k.1) in
    let m = one_number m1.place m2.place (10 ∷ s) (10 ∷ t) w.2 v.2 refl refl (ap (drop 1) l.1) in
    let hits = dd_same h1 h2 l.0 in
    let misses = dd_same m1 m2 m.0 in
    (rw (k.0, hits, misses) refl, ap (drop 1) m.1)

one_count : (m n : ℕ) (s t : List ℕ) → m < 2 ^ 64 → n < 2 ^ 64 → count_line m ++ s ≡ count_line n ++ t → (m ≡ n) × (s ≡ t)
one_count m n s t small small' e =
    let k = one_number m n (10 ∷ s) (10 ∷ t) small small' refl refl (sym (append_assoc (decimal m) (10 ∷ []) s) ∙ (ap (drop 3) e ∙ append_assoc (decimal n) (10 ∷ []) t)) in
    (k.0, ap (drop 1) k.1)

-- lines whose numbers all fit
pub record AllFit (lines : List Node) : Type 0 where
  pub each : (i : ℕ) (x : Node) → slice_get lines i ≡ Some x → FitsWords x

behind : (x : Node) (xs : List Node) → AllFit (x ∷ xs) → AllFit xs
behind x xs f = record { each = λ i y at. f.each (suc i) y at }

fits_line : (lines : List Node) (i : ℕ) (x : Node) → i < 2 ^ 64 → IsLineAt lines i x → FitsWords x
fits_line lines i (Leaf t) h w = w
fits_line lines i (Branch e hit miss) h w =
    let small : e < 2 ^ 32 = w.small in
    let a : hit.place < i = w.hit_earlier in
    let b : miss.place < i = w.miss_earlier in
    (omega arith, omega arith, omega arith)

all_fit : (lines : List Node) → AreLines lines → length lines < 2 ^ 64 → AllFit lines
all_fit lines proper fits = record { each = λ i x at. let h = slice_get_within lines i x at in fits_line lines i x (omega arith) (proper.each i x at) }

same_lines : (xs ys : List Node) (s t : List ℕ) → AllFit xs → AllFit ys → length xs ≡ length ys → lines_text xs ++ s ≡ lines_text ys ++ t → (xs ≡ ys) × (s ≡ t)
same_lines [] [] s t f g n e = (refl, e)
same_lines [] (y ∷ ys) s t f g n e = absurd (omega arith)
same_lines (x ∷ xs) [] s t f g n e = absurd (omega arith)
same_lines (x ∷ xs) (y ∷ ys) s t f g n e =
    let one = one_line x y (lines_text xs ++ s) (lines_text ys ++ t) (f.each zero x refl) (g.each zero y refl)
    (sym (append_assoc (line_text x) (lines_text xs) s) ∙ (e ∙ append_assoc (line_text y) (lines_text ys) t)) in
    let more = same_lines xs ys s t (behind x xs f) (behind y ys g) (omega arith) one.1 in
    (rw (one.0, more.0) refl, more.1)

-- where fewer lines end, the next of the longer list begins
record Goes (xs ys : List Node) (s t : List ℕ) : Type 0 where
  next : Node
  more : List Node
  is : ys ≡ xs ++ next ∷ more
  text : s ≡ line_text next ++ (lines_text more ++ t)

fewer_lines : (xs ys : List Node) (s t : List ℕ) → AllFit xs → AllFit ys → length xs < length ys → lines_text xs ++ s ≡ lines_text ys ++ t → Goes xs ys s t
fewer_lines [] [] s t f g n e = absurd (omega arith)
fewer_lines [] (y ∷ ys) s t f g n e = record { next = y; more = ys; is = refl; text = e ∙ append_assoc (line_text y) (lines_text ys) t }
fewer_lines (x ∷ xs) [] s t f g n e = absurd (omega arith)
fewer_lines (x ∷ xs) (y ∷ ys) s t f g n e =
    let one = one_line x y (lines_text xs ++ s) (lines_text ys ++ t) (f.each zero x refl) (g.each zero y refl)
    (sym (append_assoc (line_text x) (lines_text xs) s) ∙ (e ∙ append_assoc (line_text y) (lines_text ys) t)) in
    let g' = fewer_lines xs ys s t (behind x xs f) (behind y ys g) (omega arith) one.1 in
    record { next = g'.next; more = g'.more; is = ap (λ z. z ∷ ys) (sym one.0) ∙ ap (λ l. x ∷ l) g'.is; text = g'.text }

next_at : (xs : List Node) (x : Node) (more : List Node) → slice_get (xs ++ x ∷ more) (length xs) ≡ Some x
next_at [] x more = refl
next_at (y ∷ xs) x more = next_at xs x more

line_moved : (a b : List Node) (i : ℕ) (x : Node) → a ≡ b → IsLineAt a i x → IsLineAt b i x
line_moved a b i x e w = rw e at w

-- a line that may stand in the longer list may stand behind its front
line_behind : (xs more : List Node) (x : Node) → IsLineAt (xs ++ more) (length xs) x → IsLineAt xs (length xs) x
line_behind xs more (Leaf t) w = w
line_behind xs more (Branch e hit miss) w = record {
  small = w.small;
  hit_earlier = w.hit_earlier;
  miss_earlier = w.miss_earlier;
  hit_after = rw (slice_get-front xs more hit.place w.hit_earlier) at w.hit_after;
  miss_after = rw (slice_get-front xs more miss.place w.miss_earlier) at w.miss_after;
}

next_line : (xs ys : List Node) (s t : List ℕ) → AreLines ys → Goes xs ys s t → BeginsWithLine xs s
next_line xs ys s t proper g =
    let at_next : slice_get ys (length xs) ≡ Some g.next = ap (λ z. slice_get z (length xs)) g.is ∙ next_at xs g.next g.more in
    let p = line_moved ys (xs ++ g.next ∷ g.more) (length xs) g.next g.is (proper.each (length xs) g.next at_next) in
    record { line = g.next; tail = lines_text g.more ++ t; proper = line_behind xs (g.next ∷ g.more) g.next p; text = g.text }

module _ (bytes : List ℕ) (lines : List Node) (has : HasLines bytes lines) where
  whole : bytes ≡ count_line (length lines) ++ (lines_text lines ++ [])
  whole = has.whole ∙ ap (λ l. count_line (length lines) ++ l) (sym (append_none (lines_text lines)))

  -- the lines of a text are its only ones
  pub one_reading : (others : List Node) → HasLines bytes others → others ≡ lines
  one_reading others o =
      let w : bytes ≡ count_line (length others) ++ (lines_text others ++ []) = o.whole ∙ ap (λ l. count_line (length others) ++ l) (sym (append_none (lines_text others))) in
      let k = one_count (length others) (length lines) (lines_text others ++ []) (lines_text lines ++ []) o.fits has.fits (sym w ∙ whole) in
      (same_lines others lines [] [] (all_fit others o.proper o.fits) (all_fit lines has.proper has.fits) k.0 k.1).0

  lacks_none : (at : ℕ) → LacksLine bytes at → ⊥
  lacks_none at l =
      let k = one_count l.count (length lines) (lines_text l.lines ++ drop at bytes) (lines_text lines ++ []) l.front.fits has.fits
      (sym (append_assoc (count_line l.count) (lines_text l.lines) (drop at bytes)) ∙ (sym l.front.text ∙ whole)) in
      let fewer : length l.lines < length lines = omega (arith, l.fewer, k.0) in
      l.none (next_line l.lines lines (drop at bytes) [] has.proper
      (fewer_lines l.lines lines (drop at bytes) [] (all_fit l.lines l.front.proper (omega (arith, has.fits))) (all_fit lines has.proper has.fits) fewer k.1))

  goes_nowhere : (at : ℕ) → GoesOn bytes at → ⊥
  goes_nowhere at o =
      let k = one_count (length o.lines) (length lines) (lines_text o.lines ++ drop at bytes) (lines_text lines ++ []) o.front.fits has.fits
      (sym (append_assoc (count_line (length o.lines)) (lines_text o.lines) (drop at bytes)) ∙ (sym o.front.text ∙ whole)) in
      let s = (same_lines o.lines lines (drop at bytes) [] (all_fit o.lines o.front.proper o.front.fits) (all_fit lines has.proper has.fits) k.0 k.1).1 in
      let n : length (drop at bytes) ≡ 0 = ap length s in
      omega (arith, n, length-drop at bytes, o.more)

  -- a text with lines has no fault
  pub no_fault : (at : ℕ) → IsSyntaxPlace bytes at → ⊥
  no_fault at (inl z) = z.1.none (length lines) (lines_text lines) has.some has.fits has.whole
  no_fault at (inr (inl l)) = lacks_none at l
  no_fault at (inr (inr o)) = goes_nowhere at o

-- two fronts of one text
module _ (bytes : List ℕ) (n m at to : ℕ) (xs ys : List Node) (a : IsFront bytes n at xs) (b : IsFront bytes m to ys) (few : length xs ≤ n) (few' : length ys ≤ m) where
  counts : (n ≡ m) × (lines_text xs ++ drop at bytes ≡ lines_text ys ++ drop to bytes)
  counts =
      one_count n m (lines_text xs ++ drop at bytes) (lines_text ys ++ drop to bytes) a.fits b.fits
      (sym (append_assoc (count_line n) (lines_text xs) (drop at bytes)) ∙ (sym a.text ∙ (b.text ∙ append_assoc (count_line m) (lines_text ys) (drop to bytes))))

  fits : AllFit xs
  fits = all_fit xs a.proper (omega (arith, a.fits))

  fits' : AllFit ys
  fits' = all_fit ys b.proper (omega (arith, b.fits))

  -- where the shorter ends, the next line of the longer begins
  shorter : length xs < length ys → BeginsWithLine xs (drop at bytes)
  shorter less = next_line xs ys (drop at bytes) (drop to bytes) b.proper (fewer_lines xs ys (drop at bytes) (drop to bytes) fits fits' less counts.1)

  -- those with as many lines end at one place
  one_end : length xs ≡ length ys → at ≡ to
  one_end same =
      let s = (same_lines xs ys (drop at bytes) (drop to bytes) fits fits' same counts.1).0 in
      let t : count_line n ++ lines_text xs ≡ count_line m ++ lines_text ys = rw (counts.0, s) refl in
      a.ends ∙ (ap length t ∙ sym b.ends)

no_front : (bytes : List ℕ) (n at : ℕ) (xs : List Node) → HasNoCount bytes → IsFront bytes n at xs → ⊥
no_front bytes n at xs z a = z.none n (lines_text xs ++ drop at bytes) a.some a.fits (a.text ∙ append_assoc (count_line n) (lines_text xs) (drop at bytes))

module _ (bytes : List ℕ) (at to : ℕ) where
  both_lack : LacksLine bytes at → LacksLine bytes to → at ≡ to
  both_lack a b = elim (cases_lt (length a.lines) (length b.lines)) [
    | inl l ↦ absurd (a.none (shorter bytes a.count b.count at to a.lines b.lines a.front b.front (omega (arith, a.fewer)) (omega (arith, b.fewer)) l))
    | inr g ↦ elim (cases_lt (length b.lines) (length a.lines)) [
      | inl l ↦ absurd (b.none (shorter bytes b.count a.count to at b.lines a.lines b.front a.front (omega (arith, b.fewer)) (omega (arith, a.fewer)) l))
      | inr g' ↦ one_end bytes a.count b.count at to a.lines b.lines a.front b.front (omega (arith, a.fewer)) (omega (arith, b.fewer)) (omega arith)
    ]
  ]

  lacks_and_goes : LacksLine bytes at → GoesOn bytes to → ⊥
  lacks_and_goes a b =
      let c = (counts bytes a.count (length b.lines) at to a.lines b.lines a.front b.front (omega (arith, a.fewer)) (omega arith)).0 in
      a.none (shorter bytes a.count (length b.lines) at to a.lines b.lines a.front b.front (omega (arith, a.fewer)) (omega arith) (omega (arith, c, a.fewer)))

  both_go : GoesOn bytes at → GoesOn bytes to → at ≡ to
  both_go a b =
      let c = (counts bytes (length a.lines) (length b.lines) at to a.lines b.lines a.front b.front (omega arith) (omega arith)).0 in
      one_end bytes (length a.lines) (length b.lines) at to a.lines b.lines a.front b.front (omega arith) (omega arith) c

-- a text has one first fault
pub one_fault : (bytes : List ℕ) (at to : ℕ) → IsSyntaxPlace bytes at → IsSyntaxPlace bytes to → at ≡ to
one_fault bytes at to (inl z) (inl w) = z.0 ∙ sym w.0
one_fault bytes at to (inl z) (inr (inl b)) = absurd (no_front bytes b.count to b.lines z.1 b.front)
one_fault bytes at to (inl z) (inr (inr b)) = absurd (no_front bytes (length b.lines) to b.lines z.1 b.front)
one_fault bytes at to (inr (inl a)) (inl w) = absurd (no_front bytes a.count at a.lines w.1 a.front)
one_fault bytes at to (inr (inr a)) (inl w) = absurd (no_front bytes (length a.lines) at a.lines w.1 a.front)
one_fault bytes at to (inr (inl a)) (inr (inl b)) = both_lack bytes at to a b
one_fault bytes at to (inr (inl a)) (inr (inr b)) = absurd (lacks_and_goes bytes at to a b)
one_fault bytes at to (inr (inr a)) (inr (inl b)) = absurd (lacks_and_goes bytes to at b a)
one_fault bytes at to (inr (inr a)) (inr (inr b)) = both_go bytes at to a b
