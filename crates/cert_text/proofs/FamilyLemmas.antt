-- The vectors of a text are in their ranges and in order.
use Rattle.std.proofs.Common.{◌≡◌, ℕ, zero, suc, ◌<◌, ◌≤◌, true, ◌&&◌, ◌==◌, List, [], ◌∷◌, ◌++◌, length, map, set, drop, replicate, All, Some, None, refl, sym, ◌∙◌, ap, subst, arith, length-set}
use Rattle.std.specs.Prelude.{Option, slice_get, slice_index_or, filter_map, fold, nat_lt, count_by}
use Rattle.std.specs.List.{list_all, AllByRecursion, cons_option}
use Rattle.std.specs.List.Sorted.{IsStrictlySortedBy}
use Rattle.std.specs.Ordering.{nat_cmp}
use Rattle.std.specs.Cmp.Lexicographic.{slice_cmp}
use Rattle.std.specs.declared.cmp.Ordering.{Ordering}
use Rattle.std.specs.declared.cmp.Ordering.TheVariants.{Less}
use Rattle.std.proofs.lemmas.Bool.{and_parts}
use Rattle.std.proofs.lemmas.Bool.Decides.{nat_tests}
use Rattle.std.proofs.lemmas.List.Elements.{All-cons, All-nil, All-head, All-tail, All-set}
use Rattle.std.proofs.lemmas.Map.Keys.{Less-from_sorted}
use Rattle.pipe_time.specs.declared.vector.Vector.{Vector}
use Rattle.cert_lines.specs.declared.kind.Kind.TheVariants as kind
use Rattle.cert_lines.specs.Table.{part_of}
use Rattle.cert_lines.specs.Grammar.{Line}
use Rattle.cert_items.specs.declared.item.Pair.{Pair}
use Rattle.cert_items.specs.declared.item.Item.{Item}
use Rattle.cert_items.specs.declared.item.Item.TheVariants as item
use Rattle.cert_items.specs.Said.{kind_of, most, IsSlot, IsPlace}
use Rattle.cert_items.specs.Order.{ascend, above, rights, are_in_order, is_less, is_above_vector, leading, counted, last_of, are_placed, is_in_order, is_listed, is_named, is_node}
use Rattle.cert_text.specs.Told.{vector_of, listed_in, front_vectors, placed, families_in}
use Rattle.cert_text.specs.Pool.{is_before}
use Rattle.cert_text.specs.Writable.{ascend_behind, IsFitVector, IsFitFamily}
use Rattle.cert_text.proofs.OrderLemmas.{AreOrdered, last_push}
use Rattle.cert_text.proofs.OrderLemmas.AreOrdered.{done, next}
use Rattle.cert_text.proofs.PoolLemmas.{less_is, chain}
use Rattle.cert_text.proofs.ChainLemmas.{Rises, rises_by}

-- ---- the slots of pairs
pub fill_long : (slots : List ℕ) (pairs : List Pair) → length (fold (λ slots p. set slots p.left p.right) slots pairs) ≡ length slots
fill_long slots [] = refl
fill_long slots (p ∷ pairs) = fill_long (set slots p.left p.right) pairs ∙ length-set slots p.left p.right

fill_fit : (slots : List ℕ) (pairs : List Pair) → All (λ value. value ≤ most) slots → All IsSlot pairs → All (λ value. value ≤ most) (fold (λ slots p. set slots p.left p.right) slots pairs)
fill_fit slots [] all fit = all
fill_fit slots (p ∷ pairs) all fit =
    fill_fit (set slots p.left p.right) pairs (All-set (λ value. value ≤ most) slots p.left p.right (All-head IsSlot p pairs fit).value all) (All-tail IsSlot p pairs fit)

zeros_fit : (n : ℕ) → All (λ value. value ≤ most) (replicate n 0)
zeros_fit zero = All-nil (λ value. value ≤ most)
zeros_fit (suc n) = All-cons (λ value. value ≤ most) 0 (replicate n 0) (omega arith) (zeros_fit n)

-- the slots are as many as a vector's, and in their range
pub record IsFit (v : Vector) : Type 0 where
  pub size : length v.slots ≡ 35
  pub values : All (λ value. value ≤ most) v.slots

pub vector_fit : (pairs : List Pair) → All IsSlot pairs → IsFit (vector_of pairs)
vector_fit pairs fit = record { size = fill_long (replicate 35 0) pairs; values = fill_fit (replicate 35 0) pairs (zeros_fit 35) fit }

zeros : IsFit (record { slots = replicate 35 0 })
zeros = record { size = refl; values = zeros_fit 35 }

-- ---- the different vectors
abbrev pub vector_cmp : Vector → Vector → Ordering
vector_cmp a b = slice_cmp nat_cmp a.slots b.slots

pub listed_fit : (lines : List Line) (front items : List Item) → AreOrdered lines front items → All IsFit (filter_map listed_in items)
listed_fit lines front [] done = All-nil IsFit
listed_fit lines front (item.Listed slots ∷ items) (next x fits so rest) = All-cons IsFit (vector_of slots) (filter_map listed_in items) (vector_fit slots fits) (listed_fit lines (front ++ item.Listed slots ∷ []) items rest)
listed_fit lines front (x ∷ items) (next y fits so rest) = listed_fit lines (front ++ x ∷ []) items rest

no_listed : (items : List Item) → Rises 4 items → filter_map listed_in items ≡ []
no_listed [] r = refl
no_listed (item.Listed slots ∷ items) r = absurd (let n = r.0 in omega (arith, n))
no_listed (x ∷ items) r = no_listed items (rises_by 4 (part_of (Some (kind_of x))) items r.0 r.1)

-- the vectors ascend, each behind the one before it
abbrev AreAbove : Vector → List Vector → Type 0
AreAbove v vectors = AllByRecursion (λ w. vector_cmp v w ≡ Less) vectors

abbrev pub Sorted : List Vector → Type 0
Sorted vectors = IsStrictlySortedBy vector_cmp vectors

sorted_none : Sorted []
unfolding IsStrictlySortedBy
sorted_none = tt

sorted_more : (v : Vector) (vectors : List Vector) → AreAbove v vectors → Sorted vectors → Sorted (v ∷ vectors)
unfolding IsStrictlySortedBy
sorted_more v vectors above s = (above, s)

above_by : (v w : Vector) (vectors : List Vector) → vector_cmp v w ≡ Less → AreAbove w vectors → AreAbove v vectors
above_by v w [] e all = tt
above_by v w (u ∷ vectors) e all = (chain v.slots w.slots u.slots e all.0, above_by v w vectors e all.1)

-- what stands behind a vector: vectors above it that ascend
record Climb (v : Vector) (vectors : List Vector) : Type 0 where
  above : AreAbove v vectors
  sorted : Sorted vectors

climb_none : (v : Vector) (vectors : List Vector) → vectors ≡ [] → Climb v vectors
climb_none v vectors e = subst (λ (l : List Vector). Climb v l) (sym e) (record { above = tt; sorted = sorted_none })

listed_behind : (lines : List Line) (front items : List Item) (slots : List Pair) → last_of front ≡ Some (item.Listed slots) → Rises 3 items → AreOrdered lines front items → Climb (vector_of slots) (filter_map listed_in items)
listed_behind lines front [] slots is r done = record { above = tt; sorted = sorted_none }
listed_behind lines front (item.Listed pairs ∷ items) slots is r (next x fits so rest) =
    let one = and_parts (are_in_order pairs && is_above_vector (last_of front) pairs) (is_named lines (count_by is_listed front)) so in
    let two = and_parts (are_in_order pairs) (is_above_vector (last_of front) pairs) one.0 in
    let less : vector_cmp (vector_of slots) (vector_of pairs) ≡ Less = less_is (vector_cmp (vector_of slots) (vector_of pairs)) (sym (ap (λ (o : Option Item). is_above_vector o pairs) is) ∙ two.1) in
    let c = listed_behind lines (front ++ item.Listed pairs ∷ []) items pairs (last_push front (item.Listed pairs)) r.1 rest in
    record { above = (less, above_by (vector_of slots) (vector_of pairs) (filter_map listed_in items) less c.above); sorted = sorted_more (vector_of pairs) (filter_map listed_in items) c.above c.sorted }
listed_behind lines front (item.Head v ∷ items) slots is r o = absurd (let n = r.0 in omega (arith, n))
listed_behind lines front (item.Count n ∷ items) slots is r o = absurd (let n = r.0 in omega (arith, n))
listed_behind lines front (item.Node n c ∷ items) slots is r o = climb_none (vector_of slots) (filter_map listed_in items) (no_listed items r.1)
listed_behind lines front (item.Vector p s ∷ items) slots is r o = climb_none (vector_of slots) (filter_map listed_in items) (no_listed items r.1)
listed_behind lines front (item.Places n p ∷ items) slots is r o = climb_none (vector_of slots) (filter_map listed_in items) (no_listed items r.1)
listed_behind lines front (item.Charge l s a ∷ items) slots is r o = climb_none (vector_of slots) (filter_map listed_in items) (no_listed items (rises_by 4 5 items (omega arith) r.1))
listed_behind lines front (item.Multiplier n a ∷ items) slots is r o = climb_none (vector_of slots) (filter_map listed_in items) (no_listed items (rises_by 4 6 items (omega arith) r.1))
listed_behind lines front (item.Total t a ∷ items) slots is r o = climb_none (vector_of slots) (filter_map listed_in items) (no_listed items (rises_by 4 7 items (omega arith) r.1))
listed_behind lines front (item.Bound b ∷ items) slots is r o = climb_none (vector_of slots) (filter_map listed_in items) (no_listed items (rises_by 4 8 items (omega arith) r.1))
listed_behind lines front (item.End ∷ items) slots is r o = climb_none (vector_of slots) (filter_map listed_in items) (no_listed items (rises_by 4 9 items (omega arith) r.1))

pub listed_sorted : (lines : List Line) (front items : List Item) → Rises 0 items → AreOrdered lines front items → Sorted (filter_map listed_in items)
listed_sorted lines front [] r done = sorted_none
listed_sorted lines front (item.Listed pairs ∷ items) r (next x fits so rest) =
    let c = listed_behind lines (front ++ item.Listed pairs ∷ []) items pairs (last_push front (item.Listed pairs)) r.1 rest in
    sorted_more (vector_of pairs) (filter_map listed_in items) c.above c.sorted
listed_sorted lines front (x ∷ items) r (next y fits so rest) = listed_sorted lines (front ++ x ∷ []) items (rises_by 0 (part_of (Some (kind_of x))) items (omega arith) r.1) rest

-- ---- the vectors of a node, version 1
front_behind : (lines : List Line) (front items : List Item) (p : ℕ) (slots : List Pair) → last_of front ≡ Some (item.Vector p slots) → AreOrdered lines front items
    → ascend_behind is_before (Some (record { potential = p; slots = vector_of slots })) (front_vectors items) ≡ true
front_behind lines front [] p slots is done = refl
front_behind lines front (item.Vector q pairs ∷ items) p slots is (next x fits so rest) =
    let parts = and_parts (are_in_order pairs) (is_above_vector (last_of front) pairs) so in
    let less : is_before (record { potential = p; slots = vector_of slots }) (record { potential = q; slots = vector_of pairs }) ≡ true = sym (ap (λ (o : Option Item). is_above_vector o pairs) is) ∙ parts.1 in
    rw less (front_behind lines (front ++ item.Vector q pairs ∷ []) items q pairs (last_push front (item.Vector q pairs)) rest)
front_behind lines front (x ∷ items) p slots is o = refl

front_ascend : (lines : List Line) (front items : List Item) → AreOrdered lines front items → ascend_behind is_before None (front_vectors items) ≡ true
front_ascend lines front [] done = refl
front_ascend lines front (item.Vector q pairs ∷ items) (next x fits so rest) = front_behind lines (front ++ item.Vector q pairs ∷ []) items q pairs (last_push front (item.Vector q pairs)) rest
front_ascend lines front (x ∷ items) o = refl

fit_of : (p : ℕ) (v : Vector) → p ≤ most → IsFit v → IsFitVector (record { potential = p; slots = v })
fit_of p v small fit = record { potential = small; size = fit.size; slots = fit.values }

front_fit : (lines : List Line) (front items : List Item) → AreOrdered lines front items → All IsFitVector (front_vectors items)
front_fit lines front [] done = All-nil IsFitVector
front_fit lines front (item.Vector q pairs ∷ items) (next x fits so rest) =
    All-cons IsFitVector (record { potential = q; slots = vector_of pairs }) (front_vectors items) (fit_of q (vector_of pairs) fits.0 (vector_fit pairs fits.1)) (front_fit lines (front ++ item.Vector q pairs ∷ []) items rest)
front_fit lines front (x ∷ items) o = All-nil IsFitVector

-- ---- the vectors of a node, version 2
nothing : Vector
nothing = record { slots = replicate 35 0 }

get_fit : (vectors : List Vector) (i : ℕ) → All IsFit vectors → IsFit (slice_index_or vectors i (record { slots = replicate 35 0 }))
get_fit [] i all = zeros
get_fit (v ∷ vectors) zero all = All-head IsFit v vectors all
get_fit (v ∷ vectors) (suc i) all = get_fit vectors i (All-tail IsFit v vectors all)

placed_fit : (vectors : List Vector) (places : List Pair) → All IsFit vectors → All IsPlace places → All IsFitVector (map (placed vectors) places)
placed_fit vectors [] all fit = All-nil IsFitVector
placed_fit vectors (p ∷ places) all fit =
    All-cons IsFitVector (placed vectors p) (map (placed vectors) places) (fit_of p.left (slice_index_or vectors p.right (record { slots = replicate 35 0 })) (All-head IsPlace p places fit).potential (get_fit vectors p.right all))
    (placed_fit vectors places all (All-tail IsPlace p places fit))

lower : (m n : ℕ) → nat_lt m n ≡ true → m < n
lower m n e = grind (arith, nat_tests)

placed_before : (vectors : List Vector) (p q : Pair) → Sorted vectors → p.right < q.right → q.right < length vectors → is_before (placed vectors p) (placed vectors q) ≡ true
placed_before vectors p q s order inside = ap is_less (Less-from_sorted vector_cmp vectors p.right q.right (record { slots = replicate 35 0 }) s order inside)

placed_behind : (vectors : List Vector) (count : ℕ) (last : Pair) (places : List Pair) → Sorted vectors → count ≤ length vectors → ascend (Some last.right) (rights places) ≡ true → list_all (λ p. nat_lt p.right count) places ≡ true
    → ascend_behind is_before (Some (placed vectors last)) (map (placed vectors) places) ≡ true
placed_behind vectors count last [] s size order inside = refl
placed_behind vectors count last (p ∷ places) s size order inside =
    let one = and_parts (nat_lt last.right p.right) (ascend (Some p.right) (rights places)) order in
    let two = and_parts (nat_lt p.right count) (list_all (λ p. nat_lt p.right count) places) inside in
    let n = lower p.right count two.0 in
    rw (placed_before vectors last p s (lower last.right p.right one.0) (omega (arith, n, size))) (placed_behind vectors count p places s size one.1 two.1)

placed_ascend : (vectors : List Vector) (count : ℕ) (places : List Pair) → Sorted vectors → count ≤ length vectors → are_placed count places ≡ true → ascend_behind is_before None (map (placed vectors) places) ≡ true
placed_ascend vectors count [] s size placed = refl
placed_ascend vectors count (p ∷ places) s size placed =
    let parts = and_parts (ascend None (rights (p ∷ places))) (list_all (λ p. nat_lt p.right count) (p ∷ places)) placed in
    let two = and_parts (nat_lt p.right count) (list_all (λ p. nat_lt p.right count) places) parts.1 in
    placed_behind vectors count p places s size parts.0 two.1

-- ---- the second line counts no more vectors than there are
leads_more : (l : Line) (lines : List Line) (x : Item) (items : List Item) → l.kind ≡ kind_of x → leading kind.Listed lines ≤ length (filter_map listed_in items) → leading kind.Listed (l ∷ lines) ≤ length (filter_map listed_in (x ∷ items))
leads_more l lines (item.Listed slots) items e n = rw e (omega (arith, n))
leads_more l lines x items e n = rw e (omega arith)

leads : (lines : List Line) (items : List Item) → map (λ (l : Line). l.kind) lines ≡ map kind_of items → leading kind.Listed lines ≤ length (filter_map listed_in items)
leads [] items e = omega arith
leads (l ∷ lines) [] e = absurd (cc)
leads (l ∷ lines) (x ∷ items) e = leads_more l lines x items (cc) (leads lines items (cc))

drop_leads : (k : ℕ) (lines : List Line) (items : List Item) → map (λ (l : Line). l.kind) lines ≡ map kind_of items → leading kind.Listed (drop k lines) ≤ length (filter_map listed_in items)
drop_leads zero lines items e = leads lines items e
drop_leads (suc k) [] items e = omega arith
drop_leads (suc k) (l ∷ lines) [] e = absurd (cc)
drop_leads (suc k) (l ∷ lines) (x ∷ items) e =
    let rest : map (λ (l : Line). l.kind) lines ≡ map kind_of items = cc in
    let n = drop_leads k lines items rest in
    let m = longer x (filter_map listed_in items) in
    omega (arith, n, m)
  where
    longer : (x : Item) (vectors : List Vector) → length vectors ≤ length (cons_option (listed_in x) vectors)
    longer (item.Listed slots) vectors = omega arith
    longer x vectors = omega arith

pub second_leads : (lines : List Line) (items : List Item) → map (λ (l : Line). l.kind) lines ≡ map kind_of items → leading kind.Listed (drop 2 lines) ≤ length (filter_map listed_in items)
second_leads lines items e = drop_leads 2 lines items e

-- what the lines so far say of the count
abbrev IsCounted : ℕ → List Item → Type 0
IsCounted size front = counted (slice_get front 1) ≤ size

count_is : (m n : ℕ) → (m == n) ≡ true → m ≡ n
count_is m n e = grind (arith, nat_tests)

counted_push : (lines : List Line) (front : List Item) (x : Item) (size : ℕ) → leading kind.Listed (drop 2 lines) ≤ size → IsCounted size front → is_in_order lines front x ≡ true → IsCounted size (front ++ x ∷ [])
counted_push lines [] x size leads so order = omega arith
counted_push lines (h ∷ []) (item.Count n) size leads so order = let e = count_is n (leading kind.Listed (drop 2 lines)) order in omega (arith, e, leads)
counted_push lines (h ∷ []) x size leads so order = omega arith
counted_push lines (h ∷ y ∷ front) x size leads so order = so

-- ---- all nodes
pub families_fit : (lines : List Line) (front items : List Item) (vectors : List Vector) → leading kind.Listed (drop 2 lines) ≤ length vectors → IsCounted (length vectors) front → Sorted vectors → All IsFit vectors → AreOrdered lines front items
    → All IsFitFamily (families_in vectors items)
families_fit lines front [] vectors leads so s fit done = All-nil IsFitFamily
families_fit lines front (item.Node number count ∷ items) vectors leads so s fit (next x fits order rest) =
    All-cons IsFitFamily (front_vectors items) (families_in vectors items)
    (record { fit = front_fit lines (front ++ item.Node number count ∷ []) items rest; ascend = front_ascend lines (front ++ item.Node number count ∷ []) items rest })
    (families_fit lines (front ++ item.Node number count ∷ []) items vectors leads (counted_push lines front (item.Node number count) (length vectors) leads so order) s fit rest)
families_fit lines front (item.Places number places ∷ items) vectors leads so s fit (next x fits order rest) =
    let parts = and_parts (number == count_by is_node front) (are_placed (counted (slice_get front 1)) places) order in
    All-cons IsFitFamily (map (placed vectors) places) (families_in vectors items)
    (record { fit = placed_fit vectors places fit fits.1; ascend = placed_ascend vectors (counted (slice_get front 1)) places s so parts.1 })
    (families_fit lines (front ++ item.Places number places ∷ []) items vectors leads (counted_push lines front (item.Places number places) (length vectors) leads so order) s fit rest)
families_fit lines front (x ∷ items) vectors leads so s fit (next y fits order rest) =
    families_fit lines (front ++ x ∷ []) items vectors leads (counted_push lines front x (length vectors) leads so order) s fit rest
