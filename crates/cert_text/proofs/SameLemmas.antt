-- A text of version 2 is what is written of the certificate that it tells.
use Rattle.std.proofs.Common.{◌≡◌, ℕ, suc, ◌+◌, ◌<◌, ◌^◌, Bool, true, false, cond, ◌||◌, ◌==◌, List, [], ◌∷◌, ◌++◌, length, map, drop, get_or, replicate, Some, None, refl, sym, ◌∙◌, ap, subst, arith, true≢false}
use Rattle.std.specs.Prelude.{Option, slice_get, filter_map, codes, nat_lt}
use Rattle.std.specs.List.{list_all, list_any, AllByRecursion}
use Rattle.std.specs.List.Sorted.{IsStrictlySortedBy}
use Rattle.std.specs.Cmp.{both_ways}
use Rattle.std.specs.declared.cmp.Ordering.TheVariants.{Less}
use Rattle.std.proofs.lemmas.Bool.{and_parts, false≢true}
use Rattle.std.proofs.lemmas.Bool.Decides.{nat_tests}
use Rattle.std.proofs.lemmas.Map.Keys.{any_passes_from_place}
use Rattle.std.proofs.lemmas.Option.{slice_get-get_or, get_or_from_slice_get}
use Rattle.wx_text.specs.Decimal.{decimal}
use Rattle.pipe_time.specs.declared.vector.Vector.{Vector}
use Rattle.cert_lines.specs.declared.kind.Version.{Version}
use Rattle.cert_lines.specs.declared.kind.Version.TheVariants.{One, Two}
use Rattle.cert_lines.specs.declared.kind.Kind.{Kind}
use Rattle.cert_lines.specs.declared.kind.Kind.TheVariants as kind
use Rattle.cert_lines.specs.Grammar.{Line, IsText, version_of}
use Rattle.cert_items.specs.declared.item.Pair.{Pair}
use Rattle.cert_items.specs.declared.item.Item.{Item}
use Rattle.cert_items.specs.declared.item.Item.TheVariants as item
use Rattle.cert_items.specs.Said.{kind_of, arguments, flat, IsSaid}
use Rattle.cert_items.specs.Order.{is_kind, seconds, names_in, writes, tells, is_named, is_node, is_multiplier, leading, are_placed, ascend, rights}
use Rattle.cert_items.specs.Faults.{AreAllItems}
use Rattle.cert_text.specs.declared.certificate.CertVector.{CertVector}
use Rattle.cert_text.specs.declared.certificate.Certificate.{Certificate}
use Rattle.cert_text.specs.Told.{listed_in, placed, certificate_of}
use Rattle.cert_text.specs.Text.{IsTextOf}
use Rattle.cert_text.specs.Pool.{is_same, is_of, is_used, IsPool, place_in}
use Rattle.cert_text.specs.Pool as pool
use Rattle.cert_text.specs.Written.{text_of, listed_item, place_of, node_items, charge_item, multiplier_items, total_item, items_of, IsWritten}
use Rattle.cert_text.proofs.PoolLemmas.{compare, AreSorted, same_is, same_self}
use Rattle.cert_text.proofs.PlaceLemmas.{place_of_get, all_listed, number_at_is, or_left, or_right, split}
use Rattle.cert_text.proofs.TellLemmas.{as_vector, AreWide, all_map, all_multipliers, all_append, take_listed, told_again, get_map}
use Rattle.cert_text.proofs.LineLemmas.{line_of}
use Rattle.cert_text.proofs.OrderLemmas.{AreOrdered, count_none}
use Rattle.cert_text.proofs.NodeLemmas.{leading_listed}
use Rattle.cert_text.proofs.ChainLemmas.{ordered_of, all_are, kinds_are, Chain, begun_of, Rises, rises_by, chain_rises}
use Rattle.cert_text.proofs.ChainLemmas.Chain.{stay, step}
use Rattle.cert_text.proofs.FamilyLemmas.{Sorted, vector_cmp, listed_sorted}
use Rattle.cert_text.proofs.BlockLemmas.{AreLeft, order_first, places_items, has_listed, has_nodes, has_charges, has_multipliers, has_totals}
use Rattle.cert_text.proofs.AgainLemmas.{bytes_are}

-- ---- the first two lines
head_is : (x : Item) (words : List (List ℕ)) → kind.Head ≡ kind_of x → drop 1 words ≡ arguments x → version_of words ≡ Two → x ≡ item.Head Two
head_is (item.Head Two) words k e v = refl
head_is (item.Head One) [] k e v = absurd (cc)
head_is (item.Head One) (w ∷ []) k e v = absurd (cc)
head_is (item.Head One) (w ∷ u ∷ []) k e v = absurd (let one : u ≡ codes "1" = cc in let bad : One ≡ Two = sym (ap (λ t. version_of (w ∷ t ∷ [])) one) ∙ v in cc)
head_is (item.Head One) (w ∷ u ∷ t ∷ words) k e v = absurd (cc)
head_is (item.Node a b) words k e v = absurd (cc)
head_is (item.Vector a b) words k e v = absurd (cc)
head_is (item.Count a) words k e v = absurd (cc)
head_is (item.Listed a) words k e v = absurd (cc)
head_is (item.Places a b) words k e v = absurd (cc)
head_is (item.Charge a b c) words k e v = absurd (cc)
head_is (item.Multiplier a b) words k e v = absurd (cc)
head_is (item.Total a b) words k e v = absurd (cc)
head_is (item.Bound a) words k e v = absurd (cc)
head_is item.End words k e v = absurd (cc)

-- the second line counts
record HasCount (items : List Item) : Type 0 where
  size : ℕ
  behind : List Item
  is : items ≡ item.Count size ∷ behind
  chain : Chain Two (Some kind.Count) (map kind_of behind) (Some kind.End)

has_count : (items : List Item) → Chain Two (Some kind.Head) (map kind_of items) (Some kind.End) → HasCount items
has_count [] c = absurd (none c)
  where
    none : Chain Two (Some kind.Head) [] (Some kind.End) → ⊥
    none c = ends (Some kind.Head) refl c
      where
        ends : (from : Option Kind) → from ≡ Some kind.Head → Chain Two from [] (Some kind.End) → ⊥
        ends from e stay = cc
has_count (item.Count size ∷ items) (step k e rest) = record { size = size; behind = items; is = refl; chain = rest }
has_count (item.Head a ∷ items) (step k e rest) = absurd (false≢true e)
has_count (item.Node a b ∷ items) (step k e rest) = absurd (false≢true e)
has_count (item.Vector a b ∷ items) (step k e rest) = absurd (false≢true e)
has_count (item.Listed a ∷ items) (step k e rest) = absurd (false≢true e)
has_count (item.Places a b ∷ items) (step k e rest) = absurd (false≢true e)
has_count (item.Charge a b c ∷ items) (step k e rest) = absurd (false≢true e)
has_count (item.Multiplier a b ∷ items) (step k e rest) = absurd (false≢true e)
has_count (item.Total a b ∷ items) (step k e rest) = absurd (false≢true e)
has_count (item.Bound a ∷ items) (step k e rest) = absurd (false≢true e)
has_count (item.End ∷ items) (step k e rest) = absurd (false≢true e)

-- behind the count no line of the first two parts stands
rise_three : (items : List Item) → Chain Two (Some kind.Count) (map kind_of items) (Some kind.End) → Rises 3 items
rise_three [] c = tt
rise_three (item.Head a ∷ items) (step k e rest) = absurd (false≢true e)
rise_three (item.Count a ∷ items) (step k e rest) = absurd (false≢true e)
rise_three (x ∷ items) (step k e rest) = (omega arith, chain_rises Two (Some (kind_of x)) (Some kind.End) items (map kind_of items) refl rest)

-- ---- the vectors in order
sorted_front : (xs ys : List Vector) → Sorted (xs ++ ys) → Sorted xs
unfolding IsStrictlySortedBy
sorted_front [] ys s = tt
sorted_front (x ∷ xs) ys s = (above_front xs ys s.0, sorted_front xs ys s.1)
  where
    above_front : (xs ys : List Vector) → AllByRecursion (λ w. vector_cmp x w ≡ Less) (xs ++ ys) → AllByRecursion (λ w. vector_cmp x w ≡ Less) xs
    above_front [] ys a = tt
    above_front (w ∷ xs) ys a = (a.0, above_front xs ys a.1)

sorted_slots : (values : List (List ℕ)) → Sorted (map as_vector values) → AreSorted values
unfolding IsStrictlySortedBy
sorted_slots [] s = tt
sorted_slots (v ∷ values) s = (above_slots values s.0, sorted_slots values s.1)
  where
    above_slots : (values : List (List ℕ)) → AllByRecursion (λ w. vector_cmp (as_vector v) w ≡ Less) (map as_vector values) → AllByRecursion (λ w. compare v w ≡ Less) values
    above_slots [] a = tt
    above_slots (w ∷ values) a = (a.0, above_slots values a.1)

-- ---- places and vectors
lower : (m n : ℕ) → nat_lt m n ≡ true → m < n
lower m n e = grind (arith, nat_tests)

-- the vector at a place
placed_is : (values : List (List ℕ)) (p : Pair) → p.right < length values → placed (map as_vector values) p ≡ record { potential = p.left; slots = as_vector (get_or values p.right []) }
placed_is values p inside = ap (λ v. record { potential = p.left; slots = v }) (get_map values p.right (get_or values p.right []) (record { slots = replicate 35 0 }) (slice_get-get_or values p.right [] inside))

place_again : (values : List (List ℕ)) (p : Pair) → AreSorted values → p.right < length values → place_of values (placed (map as_vector values) p) ≡ p
place_again values p s inside =
    ap (place_of values) (placed_is values p inside)
    ∙ ap (λ r. record { left = p.left; right = r }) (place_of_get values p.right (get_or values p.right []) s (slice_get-get_or values p.right [] inside))

abbrev AreInside : ℕ → List Pair → Type 0
AreInside size places = AllByRecursion (λ p. p.right < size) places

inside_of : (size : ℕ) (places : List Pair) → list_all (λ p. nat_lt p.right size) places ≡ true → AreInside size places
inside_of size [] e = tt
inside_of size (p ∷ places) e =
    let parts = and_parts (nat_lt p.right size) (list_all (λ p. nat_lt p.right size) places) e in
    (lower p.right size parts.0, inside_of size places parts.1)

all_inside : (size : ℕ) (nodes : List (List Pair)) → AllByRecursion (λ places. are_placed size places ≡ true) nodes → AllByRecursion (AreInside size) nodes
all_inside size [] a = tt
all_inside size (places ∷ nodes) a = (inside_of size places (and_parts (ascend None (rights places)) (list_all (λ p. nat_lt p.right size) places) a.0).1, all_inside size nodes a.1)

places_again : (values : List (List ℕ)) (places : List Pair) → AreSorted values → AreInside (length values) places → map (place_of values) (map (placed (map as_vector values)) places) ≡ places
places_again values [] s inside = refl
places_again values (p ∷ places) s inside =
    ap (λ q. q ∷ map (place_of values) (map (placed (map as_vector values)) places)) (place_again values p s inside.0) ∙ ap (λ l. p ∷ l) (places_again values places s inside.1)

abbrev families_of : List (List ℕ) → List (List Pair) → List (List CertVector)
families_of values nodes = map (λ places. map (placed (map as_vector values)) places) nodes

nodes_again : (values : List (List ℕ)) (number : ℕ) (nodes : List (List Pair)) → AreSorted values → AllByRecursion (AreInside (length values)) nodes → places_items number nodes ≡ node_items values number (families_of values nodes)
nodes_again values number [] s inside = refl
nodes_again values number (places ∷ nodes) s inside =
    ap (λ l. item.Places number l ∷ places_items (number + 1) nodes) (sym (places_again values places s inside.0))
    ∙ ap (λ l. item.Places number (map (place_of values) (map (placed (map as_vector values)) places)) ∷ l) (nodes_again values (number + 1) nodes s inside.1)

-- ---- what is used is listed
of_listed : (values : List (List ℕ)) (places : List Pair) (q : List ℕ) → AreInside (length values) places → is_of q (map (placed (map as_vector values)) places) ≡ true → pool.is_listed q values ≡ true
of_listed values [] q inside e = absurd (true≢false (sym e))
of_listed values (p ∷ places) q inside e =
    split (is_same q (placed (map as_vector values) p).slots.slots) (is_of q (map (placed (map as_vector values)) places)) e (pool.is_listed q values ≡ true)
    (λ h. any_passes_from_place (is_same q) values p.right (get_or values p.right []) (slice_get-get_or values p.right [] inside.0) (sym (ap (λ (v : CertVector). is_same q v.slots.slots) (placed_is values p inside.0)) ∙ h))
    (λ h. of_listed values places q inside.1 h)

used_listed : (values : List (List ℕ)) (nodes : List (List Pair)) (q : List ℕ) → AllByRecursion (AreInside (length values)) nodes → is_used q (families_of values nodes) ≡ true → pool.is_listed q values ≡ true
used_listed values [] q inside e = absurd (true≢false (sym e))
used_listed values (places ∷ nodes) q inside e =
    split (is_of q (map (placed (map as_vector values)) places)) (is_used q (families_of values nodes)) e (pool.is_listed q values ≡ true)
    (λ h. of_listed values places q inside.0 h) (λ h. used_listed values nodes q inside.1 h)

-- ---- what is listed is used
-- the words that name places, as an item tells them
abbrev names_of : Item → List (List ℕ)
names_of (item.Places number places) = seconds (map decimal (flat places))
names_of other = []

drop_two : (words : List (List ℕ)) (behind : List (List ℕ)) → drop 1 words ≡ behind → drop 2 words ≡ drop 1 behind
drop_two [] behind e = ap (drop 1) e
drop_two (w ∷ words) behind e = ap (drop 1) e

names_said : (line : Line) (x : Item) → IsSaid line x → names_in line ≡ names_of x
names_said line x said = ap (λ (k : Kind). cond (is_kind kind.Places k) (seconds (drop 2 line.words)) []) (sym said.says.0) ∙ by x (drop_two line.words (arguments x) said.says.1)
  where
    by : (x : Item) → drop 2 line.words ≡ drop 1 (arguments x) → cond (is_kind kind.Places (kind_of x)) (seconds (drop 2 line.words)) [] ≡ names_of x
    by (item.Places number places) e = ap seconds e
    by (item.Head a) e = refl
    by (item.Node a b) e = refl
    by (item.Vector a b) e = refl
    by (item.Count a) e = refl
    by (item.Listed a) e = refl
    by (item.Charge a b c) e = refl
    by (item.Multiplier a b) e = refl
    by (item.Total a b) e = refl
    by (item.Bound a) e = refl
    by item.End e = refl

any_by : {A : Type 0} (f : A → List (List ℕ)) (g : Item → List (List ℕ)) (place : ℕ) (xs : List A) (ys : List Item) → map f xs ≡ map g ys → list_any (λ x. list_any (writes place) (f x)) xs ≡ list_any (λ y. list_any (writes place) (g y)) ys
any_by f g place [] [] e = refl
any_by f g place [] (y ∷ ys) e = absurd (cc)
any_by f g place (x ∷ xs) [] e = absurd (cc)
any_by f g place (x ∷ xs) (y ∷ ys) e =
    let first : f x ≡ g y = cc in
    let rest : map f xs ≡ map g ys = cc in
    ap (λ w. list_any (writes place) w || list_any (λ x. list_any (writes place) (f x)) xs) first ∙ ap (λ b. list_any (writes place) (g y) || b) (any_by f g place xs ys rest)

abbrev Names : ℕ → List Item → Bool
Names place items = list_any (λ x. list_any (writes place) (names_of x)) items

names_none : (place : ℕ) (xs ys : List Item) → AllByRecursion (λ x. names_of x ≡ []) xs → Names place (xs ++ ys) ≡ Names place ys
names_none place [] ys none = refl
names_none place (x ∷ xs) ys none = ap (λ w. list_any (writes place) w || Names place (xs ++ ys)) none.0 ∙ names_none place xs ys none.1

-- the place that the words of places name
named_place : (values : List (List ℕ)) (places : List Pair) (place : ℕ) (q : List ℕ) → length values < 2 ^ 64 → AreInside (length values) places → slice_get values place ≡ Some q
    → list_any (writes place) (seconds (map decimal (flat places))) ≡ true → is_of q (map (placed (map as_vector values)) places) ≡ true
named_place values [] place q size inside here e = absurd (true≢false (sym e))
named_place values (p ∷ places) place q size inside here e =
    split (writes place (decimal p.right)) (list_any (writes place) (seconds (map decimal (flat places)))) e (is_of q (map (placed (map as_vector values)) (p ∷ places)) ≡ true)
    (λ h.
    let n : (p.right == place) ≡ true = sym (ap (tells place) (number_at_is p.right (let k = inside.0 in omega (arith, k, size)))) ∙ h in
    let same : p.right ≡ place = is_equal p.right place n in
    let slots : get_or values p.right [] ≡ q = ap (λ k. get_or values k []) same ∙ get_or_from_slice_get values place q [] here in
    or_left (is_same q (placed (map as_vector values) p).slots.slots) (is_of q (map (placed (map as_vector values)) places))
    (ap (λ (v : CertVector). is_same q v.slots.slots) (placed_is values p inside.0) ∙ ap (is_same q) slots ∙ same_self q))
    (λ h. or_right (is_same q (placed (map as_vector values) p).slots.slots) (is_of q (map (placed (map as_vector values)) places)) (named_place values places place q size inside.1 here h))
  where
    is_equal : (m n : ℕ) → (m == n) ≡ true → m ≡ n
    is_equal m n e = grind (arith, nat_tests)

named_used : (values : List (List ℕ)) (number : ℕ) (nodes : List (List Pair)) (behind : List Item) (place : ℕ) (q : List ℕ) → length values < 2 ^ 64 → AllByRecursion (AreInside (length values)) nodes → slice_get values place ≡ Some q
    → Names place behind ≡ false → Names place (places_items number nodes ++ behind) ≡ true → is_used q (families_of values nodes) ≡ true
named_used values number [] behind place q size inside here none e = absurd (true≢false (sym e ∙ none))
named_used values number (places ∷ nodes) behind place q size inside here none e =
    split (list_any (writes place) (seconds (map decimal (flat places)))) (Names place (places_items (number + 1) nodes ++ behind)) e (is_used q (families_of values (places ∷ nodes)) ≡ true)
    (λ h. or_left (is_of q (map (placed (map as_vector values)) places)) (is_used q (families_of values nodes)) (named_place values places place q size inside.0 here h))
    (λ h. or_right (is_of q (map (placed (map as_vector values)) places)) (is_used q (families_of values nodes)) (named_used values (number + 1) nodes behind place q size inside.1 here none h))

names_nothing : (place : ℕ) (xs : List Item) → AllByRecursion (λ x. names_of x ≡ []) xs → Names place xs ≡ false
names_nothing place [] all = refl
names_nothing place (x ∷ xs) all = ap (λ w. list_any (writes place) w || Names place xs) all.0 ∙ names_nothing place xs all.1

-- ---- the first two lines, and what is left
record IsOpened (items : List Item) : Type 0 where
  size : ℕ
  rest : List Item
  is : items ≡ item.Head Two ∷ item.Count size ∷ rest
  chain : Chain Two (Some kind.Count) (map kind_of rest) (Some kind.End)

opened_by : (x : Item) (items : List Item) (words : List (List ℕ)) (kinds : List Kind) → kind.Head ≡ kind_of x → kinds ≡ map kind_of items → drop 1 words ≡ arguments x → version_of words ≡ Two → Chain Two (Some kind.Head) kinds (Some kind.End)
    → IsOpened (x ∷ items)
opened_by x items words kinds first others said version c =
    let count = has_count items (subst (λ (ks : List Kind). Chain Two (Some kind.Head) ks (Some kind.End)) others c) in
    record {
      size = count.size;
      rest = count.behind;
      is = ap (λ y. y ∷ items) (head_is x words first said version) ∙ ap (λ (l : List Item). item.Head Two ∷ l) count.is;
      chain = count.chain;
    }

opened : (items : List Item) (words : List (List ℕ)) (behind : List Line) → kind.Head ∷ map (λ (l : Line). l.kind) behind ≡ map kind_of items → drop 1 words ∷ map (λ (l : Line). drop 1 l.words) behind ≡ map arguments items
    → version_of words ≡ Two → Chain Two (Some kind.Head) (map (λ (l : Line). l.kind) behind) (Some kind.End) → IsOpened items
opened [] words behind kinds said version c = absurd (cc)
opened (x ∷ items) words behind kinds said version c =
    let first : kind.Head ≡ kind_of x = cc in
    let others : map (λ (l : Line). l.kind) behind ≡ map kind_of items = cc in
    let tells : drop 1 words ≡ arguments x = cc in
    opened_by x items words (map (λ (l : Line). l.kind) behind) first others tells version c

-- ---- how many vectors the second line counts
leading_same : (lines : List Line) (items : List Item) → map (λ (l : Line). l.kind) lines ≡ map kind_of items → leading kind.Listed lines ≡ leading kind.Listed (map line_of items)
leading_same [] [] e = refl
leading_same [] (x ∷ items) e = absurd (cc)
leading_same (l ∷ lines) [] e = absurd (cc)
leading_same (l ∷ lines) (x ∷ items) e =
    let first : l.kind ≡ kind_of x = cc in
    let rest : map (λ (l : Line). l.kind) lines ≡ map kind_of items = cc in
    ap (λ (k : Kind). cond {A = ℕ} (is_kind kind.Listed k) (leading kind.Listed lines + 1) 0) first ∙ ap (λ n. cond {A = ℕ} (is_kind kind.Listed (kind_of x)) (n + 1) 0) (leading_same lines items rest)

drop_kinds : (lines : List Line) (a b : Kind) (kinds : List Kind) → map (λ (l : Line). l.kind) lines ≡ a ∷ b ∷ kinds → map (λ (l : Line). l.kind) (drop 2 lines) ≡ kinds
drop_kinds [] a b kinds e = absurd (cc)
drop_kinds (l ∷ []) a b kinds e = absurd (cc)
drop_kinds (l ∷ m ∷ lines) a b kinds e = cc

leading_later : (items : List Item) → Rises 4 items → leading kind.Listed (map line_of items) ≡ 0
leading_later [] r = refl
leading_later (item.Listed s ∷ items) r = absurd (let n = r.0 in omega (arith, n))
leading_later (x ∷ items) r = refl

-- ---- the blocks of a text
record AreBlocks (lines : List Line) (size : ℕ) (rest : List Item) : Type 0 where
  values : List (List ℕ)
  nodes : List (List Pair)
  prices : List Item
  c : Certificate
  is : rest ≡ map listed_item values ++ (places_items 0 nodes ++ prices)
  behind : prices ≡ map charge_item c.charges ++ (multiplier_items 0 c.multipliers ++ (map total_item c.totals ++ item.Bound c.bound ∷ item.End ∷ []))
  later : Rises 4 (places_items 0 nodes ++ prices)
  wide : AreWide values
  named : (i : ℕ) → i < length values → is_named lines (0 + i) ≡ true
  placed : AllByRecursion (λ places. are_placed size places ≡ true) nodes

abbrev opening : ℕ → List Item
opening size = item.Head Two ∷ item.Count size ∷ []

blocks_of : (lines : List Line) (size : ℕ) (rest : List Item) → AreLeft lines (opening size) 3 rest → AreBlocks lines size rest
blocks_of lines size rest l =
    let a = has_listed lines (opening size) 0 rest refl l in
    let f1 = opening size ++ map listed_item a.values in
    let b = has_nodes lines f1 0 size a.split.behind (count_none is_node (opening size) (map listed_item a.values) (all_map (λ x. is_node x ≡ false) listed_item (λ s. refl) a.values)) refl a.split.left in
    let f2 = f1 ++ places_items 0 b.nodes in
    let d = has_charges lines f2 b.split.behind b.split.left in
    let f3 = f2 ++ map charge_item d.charges in
    let e = has_multipliers lines f3 0 d.split.behind
    (count_none is_multiplier f2 (map charge_item d.charges) (all_map (λ x. is_multiplier x ≡ false) charge_item (λ s. refl) d.charges)
    ∙ count_none is_multiplier f1 (places_items 0 b.nodes) (all_places (λ x. is_multiplier x ≡ false) (λ n p. refl) 0 b.nodes)
    ∙ count_none is_multiplier (opening size) (map listed_item a.values) (all_map (λ x. is_multiplier x ≡ false) listed_item (λ s. refl) a.values)) d.split.left in
    let f4 = f3 ++ multiplier_items 0 e.amounts in
    let g = has_totals lines f4 e.split.behind e.split.left in
    record {
      values = a.values;
      nodes = b.nodes;
      prices = b.split.behind;
      c = record { families = []; charges = d.charges; multipliers = e.amounts; totals = g.totals; bound = g.bound };
      is = a.split.is ∙ ap (λ (t : List Item). map listed_item a.values ++ t) b.split.is;
      behind = d.split.is ∙ ap (λ (t : List Item). map charge_item d.charges ++ t) (e.split.is ∙ ap (λ (t : List Item). multiplier_items 0 e.amounts ++ t) g.is);
      later = subst (Rises 4) b.split.is a.split.left.rises;
      wide = a.wide;
      named = a.named;
      placed = b.placed;
    }
  where
    all_places : (P : Item → Type 0) → ((number : ℕ) (places : List Pair) → P (item.Places number places)) → (number : ℕ) (nodes : List (List Pair)) → AllByRecursion P (places_items number nodes)
    all_places P f number [] = tt
    all_places P f number (places ∷ nodes) = (f number places, all_places P f (number + 1) nodes)

prices_name : (c : Certificate) → AllByRecursion (λ x. names_of x ≡ []) (map charge_item c.charges ++ (multiplier_items 0 c.multipliers ++ (map total_item c.totals ++ item.Bound c.bound ∷ item.End ∷ [])))
prices_name c =
    all_append (λ x. names_of x ≡ []) (map charge_item c.charges) (multiplier_items 0 c.multipliers ++ (map total_item c.totals ++ item.Bound c.bound ∷ item.End ∷ [])) (all_map (λ x. names_of x ≡ []) charge_item (λ s. refl) c.charges)
    (all_append (λ x. names_of x ≡ []) (multiplier_items 0 c.multipliers) (map total_item c.totals ++ item.Bound c.bound ∷ item.End ∷ []) (all_multipliers (λ x. names_of x ≡ []) (λ n a. refl) 0 c.multipliers)
    (all_append (λ x. names_of x ≡ []) (map total_item c.totals) (item.Bound c.bound ∷ item.End ∷ []) (all_map (λ x. names_of x ≡ []) total_item (λ s. refl) c.totals) (refl, (refl, tt))))

-- where the slots stand
record IsAt (values : List (List ℕ)) (q : List ℕ) : Type 0 where
  place : ℕ
  inside : place < length values
  here : slice_get values place ≡ Some q

at : (values : List (List ℕ)) (q : List ℕ) → pool.is_listed q values ≡ true → IsAt values q
at [] q e = absurd (true≢false (sym e))
at (v ∷ values) q e =
    split (is_same q v) (pool.is_listed q values) e (IsAt (v ∷ values) q)
    (λ h. record { place = 0; inside = omega arith; here = ap Some (sym (same_is q v h)) })
    (λ h. let w = at values q h in record { place = suc w.place; inside = (let n = w.inside in omega (arith, n)); here = w.here })

-- what is listed is used
listed_used : (lines : List Line) (items : List Item) (size : ℕ) (rest : List Item) (b : AreBlocks lines size rest) → AreAllItems lines items → items ≡ item.Head Two ∷ item.Count size ∷ rest → length b.values < 2 ^ 64
    → AllByRecursion (AreInside (length b.values)) b.nodes → (q : List ℕ) → pool.is_listed q b.values ≡ true → is_used q (families_of b.values b.nodes) ≡ true
listed_used lines items size rest b a is few inside q listed =
    let w = at b.values q listed in
    let i = w.place in
    let zero_more : 0 + i ≡ i = omega arith in
    let said : Names i items ≡ true = sym (any_by names_in names_of i lines items (all_are names_in names_of names_said lines items a)) ∙ ap (is_named lines) (sym zero_more) ∙ b.named i w.inside in
    let shape : Names i items ≡ Names i (places_items 0 b.nodes ++ b.prices) =
    ap (Names i) (is ∙ ap (λ (t : List Item). item.Head Two ∷ item.Count size ∷ t) b.is) ∙ names_none i (map listed_item b.values) (places_items 0 b.nodes ++ b.prices) (all_map (λ x. names_of x ≡ []) listed_item (λ s. refl) b.values) in
    let nothing : Names i b.prices ≡ false = ap (Names i) b.behind ∙ names_nothing i (map charge_item b.c.charges ++ (multiplier_items 0 b.c.multipliers ++ (map total_item b.c.totals ++ item.Bound b.c.bound ∷ item.End ∷ []))) (prices_name b.c) in
    named_used b.values 0 b.nodes b.prices i q few inside w.here nothing (sym shape ∙ said)

-- the two first lines opened, blocks behind them
same_text : (c : Certificate) (bytes : List ℕ) (lines : List Line) (items : List Item) (size : ℕ) (rest : List Item) (b : AreBlocks lines size rest) → bytes ≡ text_of items → AreAllItems lines items → c ≡ certificate_of items
    → items ≡ item.Head Two ∷ item.Count size ∷ rest → size ≡ length b.values → length b.values < 2 ^ 32 → AreSorted b.values → IsWritten bytes c
same_text c bytes lines items size rest b text a tells is count few s =
    let inside : AllByRecursion (AreInside (length b.values)) b.nodes = subst (λ n. AllByRecursion (AreInside n) b.nodes) count (all_inside size b.nodes b.placed) in
    let families = families_of b.values b.nodes in
    let d : Certificate = record { families = families; charges = b.c.charges; multipliers = b.c.multipliers; totals = b.c.totals; bound = b.c.bound } in
    let all : items ≡ items_of b.values d =
    is ∙ ap (λ (t : List Item). item.Head Two ∷ item.Count size ∷ t) (b.is ∙ ap (λ (t : List Item). map listed_item b.values ++ t) (ap (λ (t : List Item). t ++ b.prices) (nodes_again b.values 0 b.nodes s inside) ∙ ap (λ (t : List Item). node_items b.values 0 families ++ t) b.behind))
    ∙ ap (λ n. item.Head Two ∷ item.Count n ∷ (map listed_item b.values ++ (node_items b.values 0 families ++ (map charge_item b.c.charges ++ (multiplier_items 0 b.c.multipliers ++ (map total_item b.c.totals ++ item.Bound b.c.bound ∷ item.End ∷ [])))))) count in
    let different : IsPool families b.values = record {
      sorted = s;
      same = λ q. both_ways (pool.is_listed q b.values) (is_used q families) (listed_used lines items size rest b a is (omega (arith, few)) inside q) (used_listed b.values b.nodes q inside);
    } in
    let same : c ≡ d = tells ∙ ap certificate_of all ∙ sym (told_again b.values d s b.wide (all_listed b.values families (λ q e. used_listed b.values b.nodes q inside e))) in
    subst (λ (e : Certificate). IsWritten bytes e) (sym same) (record { pool = b.values; different = different; text = text ∙ ap text_of all })

count_is : (m n : ℕ) → (m == n) ≡ true → m ≡ n
count_is m n e = grind (arith, nat_tests)

pub text_is_written : (c : Certificate) (bytes : List ℕ) (t : IsTextOf bytes c) → t.version ≡ Two → IsWritten bytes c
text_is_written c bytes t two =
    let lines = t.lines in
    let items = t.items in
    let text : IsText bytes Two lines = subst (λ (v : Version). IsText bytes v lines) two t.text in
    let g = begun_of Two lines kind.End bytes text in
    let kinds : map (λ (l : Line). l.kind) lines ≡ map kind_of items = kinds_are lines items t.so in
    let said : map (λ (l : Line). drop 1 l.words) lines ≡ map arguments items = all_are (λ (l : Line). drop 1 l.words) arguments (λ line x s. s.says.1) lines items t.so in
    let p = opened items g.words g.behind (sym (ap (map (λ (l : Line). l.kind)) g.is) ∙ kinds) (sym (ap (map (λ (l : Line). drop 1 l.words)) g.is) ∙ said) g.version g.chain in
    let o : AreOrdered lines [] (item.Head Two ∷ item.Count p.size ∷ p.rest) = subst (AreOrdered lines []) p.is (ordered_of lines items t.so.so) in
    let o1 = order_first lines [] (item.Head Two) (item.Count p.size ∷ p.rest) o in
    let o2 = order_first lines (item.Head Two ∷ []) (item.Count p.size) p.rest o1.2 in
    let three = rise_three p.rest p.chain in
    let b = blocks_of lines p.size p.rest (record { from = Some kind.Count; low = omega arith; high = omega arith; chain = p.chain; rises = three; ordered = o2.2 }) in
    let dropped : map (λ (l : Line). l.kind) (drop 2 lines) ≡ map kind_of p.rest = drop_kinds lines kind.Head kind.Count (map kind_of p.rest) (kinds ∙ ap (map kind_of) p.is) in
    let many : leading kind.Listed (drop 2 lines) ≡ length b.values =
    leading_same (drop 2 lines) p.rest dropped ∙ ap (λ (l : List Item). leading kind.Listed (map line_of l)) b.is ∙ leading_listed b.values (places_items 0 b.nodes ++ b.prices) (leading_later (places_items 0 b.nodes ++ b.prices) b.later) in
    let count : p.size ≡ length b.values = count_is p.size (leading kind.Listed (drop 2 lines)) o2.1 ∙ many in
    let two_on : Rises 2 p.rest = rises_by 2 3 p.rest (omega arith) three in
    let s0 : Sorted (filter_map listed_in (item.Head Two ∷ item.Count p.size ∷ p.rest)) = listed_sorted lines [] (item.Head Two ∷ item.Count p.size ∷ p.rest) (omega arith, (omega arith, two_on)) o in
    let s1 : Sorted (map as_vector b.values ++ filter_map listed_in (places_items 0 b.nodes ++ b.prices)) =
    subst Sorted (ap (filter_map listed_in) b.is ∙ take_listed b.values (places_items 0 b.nodes ++ b.prices) b.wide) s0 in
    let s = sorted_slots b.values (sorted_front (map as_vector b.values) (filter_map listed_in (places_items 0 b.nodes ++ b.prices)) s1) in
    same_text c bytes lines items p.size p.rest b (bytes_are bytes Two lines items text t.so) t.so t.is p.is count (subst (λ n. n < 2 ^ 32) count o2.0) s
