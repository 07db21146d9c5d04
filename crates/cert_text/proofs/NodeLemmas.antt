-- The lines of the vectors and of the nodes stand in order.
use Rattle.std.proofs.Common.{◌≡◌, ℕ, zero, suc, ◌+◌, ◌<◌, ◌≤◌, ◌^◌, Bool, true, false, ◌||◌, ◌==◌, List, [], ◌∷◌, ◌++◌, length, map, All, Some, refl, sym, ◌∙◌, ap, subst, arith, true≢false}
use Rattle.std.specs.Prelude.{Option, slice_get, count_by}
use Rattle.std.specs.List.{list_any, AllByRecursion}
use Rattle.std.proofs.lemmas.Bool.Decides.{nat_tests}
use Rattle.std.proofs.lemmas.List.Elements.{All-head, All-tail, All-cons, All-nil}
use Rattle.wx_text.specs.Decimal.{decimal}
use Rattle.cert_lines.specs.declared.kind.Kind.TheVariants as kind
use Rattle.cert_lines.specs.Grammar.{Line}
use Rattle.cert_items.specs.declared.item.Pair.{Pair}
use Rattle.cert_items.specs.declared.item.Item.{Item}
use Rattle.cert_items.specs.declared.item.Item.TheVariants as item
use Rattle.cert_items.specs.Said.{kind_of, flat, most, IsPlace}
use Rattle.cert_items.specs.Order.{is_kind, is_node, is_listed, is_less, is_above_vector, seconds, writes, names_in, is_named, leading, last_of, is_in_order, slots_of}
use Rattle.cert_text.specs.declared.certificate.CertVector.{CertVector}
use Rattle.cert_text.specs.Pool.{is_same, is_of, is_used, place_in}
use Rattle.cert_text.specs.Pool as pool
use Rattle.cert_text.specs.Written.{pairs_from, listed_item, place_of, node_items}
use Rattle.cert_text.specs.Writable.{IsFitVector, IsFitFamily}
use Rattle.cert_text.proofs.LineLemmas.{line_of}
use Rattle.cert_text.proofs.OrderLemmas.{AreOrdered, last_push, count_push}
use Rattle.cert_text.proofs.OrderLemmas.AreOrdered.{done, next}
use Rattle.cert_text.proofs.PoolLemmas.{compare, AreSorted, same_is, same_self, above_all, sorted_behind}
use Rattle.cert_text.proofs.PlaceLemmas.{AreListed, are_places, place_inside, named_in, or_left, or_right, split}
use Rattle.cert_text.proofs.PairLemmas.{pairs_in_order, slots_fit, slots_again}

-- the slots are those of a vector, and in their range
pub record AreFitSlots (slots : List ℕ) : Type 0 where
  pub size : length slots ≡ 35
  pub values : All (λ value. value ≤ most) slots

-- ---- what is used is in its range
of_fit : (family : List CertVector) → All IsFitVector family → (slots : List ℕ) → is_of slots family ≡ true → AreFitSlots slots
of_fit [] all slots used = absurd (true≢false (sym used))
of_fit (v ∷ family) all slots used =
    let here = All-head IsFitVector v family all in
    split (is_same slots v.slots.slots) (is_of slots family) used (AreFitSlots slots)
    (λ e. subst AreFitSlots (sym (same_is slots v.slots.slots e)) (record { size = here.size; values = here.slots }))
    (λ e. of_fit family (All-tail IsFitVector v family all) slots e)

pub used_fit : (families : List (List CertVector)) → All IsFitFamily families → (slots : List ℕ) → is_used slots families ≡ true → AreFitSlots slots
used_fit [] all slots used = absurd (true≢false (sym used))
used_fit (family ∷ families) all slots used =
    split (is_of slots family) (is_used slots families) used (AreFitSlots slots)
    (λ e. of_fit family (All-head IsFitFamily family families all).fit slots e)
    (λ e. used_fit families (All-tail IsFitFamily family families all) slots e)

pub pool_fit : (P : List ℕ → Type 0) (vectors : List (List ℕ)) → ((slots : List ℕ) → pool.is_listed slots vectors ≡ true → P slots) → AllByRecursion P vectors
pool_fit P [] f = tt
pool_fit P (slots ∷ vectors) f = (
  f slots (or_left (is_same slots slots) (pool.is_listed slots vectors) (same_self slots)),
  pool_fit P vectors (λ other e. f other (or_right (is_same other slots) (pool.is_listed other vectors) e)),
)

-- ---- the lines of the vectors
equal_by : (m n : ℕ) → n ≡ m → (m == n) ≡ true
equal_by m n e = grind (arith, nat_tests)

-- one line of a vector stands in order
listed_next : (lines : List Line) (before : List Item) (number : ℕ) (slots : List ℕ) → is_above_vector (last_of before) (pairs_from 0 slots) ≡ true → count_by is_listed before ≡ number → is_named lines number ≡ true
    → is_in_order lines before (listed_item slots) ≡ true
listed_next lines before number slots above counts named = rw (pairs_in_order slots, above, counts) named

listed_behind : (lines : List Line) (before : List Item) (number count : ℕ) (last : List ℕ) (vectors : List (List ℕ)) → ((i : ℕ) → i < count → is_named lines i ≡ true) → last_of before ≡ Some (listed_item last)
    → count_by is_listed before ≡ number → number + length vectors ≤ count → AreSorted (last ∷ vectors) → AreFitSlots last → AllByRecursion AreFitSlots vectors → AreOrdered lines before (map listed_item vectors)
listed_behind lines before number count last [] named is counts size s f fit = done
listed_behind lines before number count last (slots ∷ vectors) named is counts size s f fit =
    let above : is_above_vector (last_of before) (pairs_from 0 slots) ≡ true =
    ap (λ (o : Option Item). is_above_vector o (pairs_from 0 slots)) is
    ∙ ap (λ (a : List ℕ). is_less (compare a (slots_of (pairs_from 0 slots)))) (slots_again last f.size) ∙ ap (λ (b : List ℕ). is_less (compare last b)) (slots_again slots fit.0.size)
    ∙ ap is_less (above_all last (slots ∷ vectors) s).0 in
    next (listed_item slots) (slots_fit slots fit.0.size fit.0.values) (listed_next lines before number slots above counts (named number (omega (arith, size))))
    (listed_behind lines (before ++ listed_item slots ∷ []) (number + 1) count slots vectors named (last_push before (listed_item slots))
    (count_push is_listed before (listed_item slots) ∙ ap (λ n. n + 1) counts) (omega (arith, size)) (sorted_behind last (slots ∷ vectors) s) fit.0 fit.1)

pub listed_ordered : (lines : List Line) (before : List Item) (vectors : List (List ℕ)) → ((i : ℕ) → i < length vectors → is_named lines i ≡ true) → ((pairs : List Pair) → is_above_vector (last_of before) pairs ≡ true)
    → count_by is_listed before ≡ 0 → AreSorted vectors → AllByRecursion AreFitSlots vectors → AreOrdered lines before (map listed_item vectors)
listed_ordered lines before [] named above counts s fit = done
listed_ordered lines before (slots ∷ vectors) named above counts s fit =
    next (listed_item slots) (slots_fit slots fit.0.size fit.0.values) (listed_next lines before 0 slots (above (pairs_from 0 slots)) counts (named 0 (omega arith)))
    (listed_behind lines (before ++ listed_item slots ∷ []) 1 (length (slots ∷ vectors)) slots vectors named (last_push before (listed_item slots))
    (count_push is_listed before (listed_item slots) ∙ ap (λ n. n + 1) counts) (omega arith) s fit.0 fit.1)

-- how many lines of vectors there are
pub leading_none : (items : List Item) → AllByRecursion (λ x. is_kind kind.Listed (kind_of x) ≡ false) items → leading kind.Listed (map line_of items) ≡ 0
leading_none [] none = refl
leading_none (x ∷ items) none = rw none.0 refl

pub leading_listed : (vectors : List (List ℕ)) (items : List Item) → leading kind.Listed (map line_of items) ≡ 0 → leading kind.Listed (map line_of (map listed_item vectors ++ items)) ≡ length vectors
leading_listed [] items e = e
leading_listed (slots ∷ vectors) items e = let n = leading_listed vectors items e in omega (arith, n)

-- ---- the lines of the nodes
places_fit : (vectors : List (List ℕ)) (family : List CertVector) → AreSorted vectors → length vectors < 2 ^ 32 → AreListed vectors family → All IsFitVector family → All IsPlace (map (place_of vectors) family)
places_fit vectors [] s size listed fit = All-nil IsPlace
places_fit vectors (v ∷ family) s size listed fit =
    let inside = place_inside vectors v.slots.slots s listed.0 in
    All-cons IsPlace (place_of vectors v) (map (place_of vectors) family) (record { potential = (All-head IsFitVector v family fit).potential; place = omega (arith, inside, size) })
    (places_fit vectors family s size listed.1 (All-tail IsFitVector v family fit))

get_front : (before : List Item) (x y : Item) (k : ℕ) → slice_get before k ≡ Some y → slice_get (before ++ x ∷ []) k ≡ Some y
get_front [] x y k e = absurd (cc)
get_front (z ∷ before) x y zero e = e
get_front (z ∷ before) x y (suc k) e = get_front before x y k e

node_next : (lines : List Line) (before : List Item) (vectors : List (List ℕ)) (number : ℕ) (family : List CertVector) → count_by is_node before ≡ number → slice_get before 1 ≡ Some (item.Count (length vectors))
    → AreSorted vectors → AreListed vectors family → IsFitFamily family → is_in_order lines before (item.Places number (map (place_of vectors) family)) ≡ true
node_next lines before vectors number family counts count s listed fit = rw (equal_by number (count_by is_node before) counts, count) (are_places vectors family s listed fit.ascend)

pub nodes_ordered : (lines : List Line) (before : List Item) (vectors : List (List ℕ)) (number : ℕ) (families : List (List CertVector)) → count_by is_node before ≡ number → slice_get before 1 ≡ Some (item.Count (length vectors))
    → AreSorted vectors → length vectors < 2 ^ 32 → number + length families ≤ 2 ^ 32 → AllByRecursion (AreListed vectors) families → All IsFitFamily families → AreOrdered lines before (node_items vectors number families)
nodes_ordered lines before vectors number [] counts count s size many listed fit = done
nodes_ordered lines before vectors number (family ∷ families) counts count s size many listed fit =
    let here = All-head IsFitFamily family families fit in
    let x : Item = item.Places number (map (place_of vectors) family) in
    next x (omega (arith, many), places_fit vectors family s size listed.0 here.fit) (node_next lines before vectors number family counts count s listed.0 here)
    (nodes_ordered lines (before ++ x ∷ []) vectors (number + 1) families (count_push is_node before x ∙ ap (λ n. n + 1) counts) (get_front before x (item.Count (length vectors)) 1 count) s size
    (omega (arith, many)) listed.1 (All-tail IsFitFamily family families fit))

-- ---- each vector is named
any_behind : (p : Line → Bool) (xs ys : List Item) → list_any p (map line_of ys) ≡ true → list_any p (map line_of (xs ++ ys)) ≡ true
any_behind p [] ys e = e
any_behind p (x ∷ xs) ys e = or_right (p (line_of x)) (list_any p (map line_of (xs ++ ys))) (any_behind p xs ys e)

nodes_name : (vectors : List (List ℕ)) (number : ℕ) (families : List (List CertVector)) (slots : List ℕ) (place : ℕ) (behind : List Item) → place < 2 ^ 64 → place_in vectors slots ≡ place → is_used slots families ≡ true
    → list_any (λ line. list_any (writes place) (names_in line)) (map line_of (node_items vectors number families ++ behind)) ≡ true
nodes_name vectors number [] slots place behind small e used = absurd (true≢false (sym used))
nodes_name vectors number (family ∷ families) slots place behind small e used =
    let first : Bool = list_any (writes place) (seconds (map decimal (flat (map (place_of vectors) family)))) in
    let others : Bool = list_any (λ line. list_any (writes place) (names_in line)) (map line_of (node_items vectors (number + 1) families ++ behind)) in
    split (is_of slots family) (is_used slots families) used ((first || others) ≡ true)
    (λ h. or_left first others (named_in vectors family slots place small e h))
    (λ h. or_right first others (nodes_name vectors (number + 1) families slots place behind small e h))

-- the lines of the nodes behind others name the place of the slots
pub all_named : (before : List Item) (vectors : List (List ℕ)) (families : List (List CertVector)) (slots : List ℕ) (place : ℕ) (behind : List Item) → place < 2 ^ 64 → place_in vectors slots ≡ place → is_used slots families ≡ true
    → is_named (map line_of (before ++ (node_items vectors 0 families ++ behind))) place ≡ true
all_named before vectors families slots place behind small e used =
    any_behind (λ line. list_any (writes place) (names_in line)) before (node_items vectors 0 families ++ behind) (nodes_name vectors 0 families slots place behind small e used)
