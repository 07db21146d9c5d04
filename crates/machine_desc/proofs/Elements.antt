-- What the regions of a document in which no key has a fault hold.
use Rattle.std.proofs.Common.{◌≡◌, ◌≢◌, ℕ, zero, suc, ◌<◌, ◌≤◌, ℤ, pos, true, false, not, ◌&&◌, ◌||◌, Option, Some, None, List, [], ◌∷◌, ◌++◌, length, get_or, codes, is_some, refl, sym, ap, subst, ◌∙◌, inl, inr, arith, take, add-one, ◌+◌}
use Rattle.std.specs.Prelude.{int_le, slice_get, option_and_then}
use Rattle.std.proofs.lemmas.Bool.{and_parts, cases_lt}
use Rattle.std.proofs.lemmas.Int.{ints}
use Rattle.std.proofs.lemmas.Option.{get_or_from_slice_get, slice_get_within}
use Rattle.toml.specs.Data.{Data, Items, no_items, item, get, as_table, as_array}
use Rattle.toml.specs.View.{view, items_view}
use Rattle.toml.specs.declared.value.Value.{Value}
use Rattle.wx_base.specs.declared.machine.Region.{Region}
use Rattle.wx_base.specs.Machine.{AreApart}
use Rattle.machine_desc.specs.declared.keys.Wanted.TheVariants.{Number, Table, Array}
use Rattle.machine_desc.specs.Keys.{Row, row, rows, region_rows}
use Rattle.machine_desc.specs.Faults.{is_within, is_power_of_two, array_fault, count, fault_of, fault_in}
use Rattle.machine_desc.specs.Document.{gathered, gathered_items, dotted, integer_in, items_in, elements, region_key, listed, row_faults, inner_faults, element_faults, faults}
use Rattle.machine_desc.specs.Meeting.{Meet, NoneMeet, region_in, no_region}
use Rattle.machine_desc.specs.Values.{natural_in, HasWords, HaveWords, region_of, regions_of}
use Rattle.machine_desc.proofs.Ranges.{nil_parts, gathered_nil, listed_nil, none_from, number_in_table, right_kind, natural_le, row_right, top_right}

-- a region whose addresses are words and in order
pub record IsRight (d : Data) : Type 0 where
  pub words : HasWords d
  pub ordered : natural_in (codes "first") d ≤ natural_in (codes "last") d

abbrev pub AreRight : Items → Type 0
AreRight no_items = Unit {0}
AreRight (item d ds) = IsRight d × AreRight ds

inner_right : (key : List ℕ) (d : Data) (i : ℕ) (r : Row) → inner_faults key d ≡ [] → slice_get (region_rows (integer_in (codes "first") d)) i ≡ Some r → fault_in r (Some d) ≡ None
inner_right key d i r h at = listed_nil (dotted key r.name) (fault_in r (Some d)) (gathered_nil (λ (s : Row). listed (dotted key s.name) (fault_in s (Some d))) (region_rows (integer_in (codes "first") d)) i r h at)

ends : (low high z : ℤ) → is_within low high false z ≡ true → (int_le low z ≡ true) × (int_le z high ≡ true)
ends low high z h = and_parts (int_le low z) (int_le z high) (and_parts (int_le low z && int_le z high) (not false || is_power_of_two z) h).0

element_right : (i : ℕ) (d : Data) → element_faults i d ≡ [] → IsRight d
unfolding region_rows
element_right i d h =
    let parts = nil_parts (listed (region_key i) (fault_of Table (Some d))) (inner_faults (region_key i) d) h in
    let table : is_some (as_table d) ≡ true = right_kind (is_some (as_table d)) (listed_nil (region_key i) (fault_of Table (Some d)) parts.0) in
    let low = ends (pos 0) (pos 4294967295) (integer_in (codes "first") d)
    (number_in_table (codes "region") (codes "first") (pos 0) (pos 4294967295) false d table (inner_right (region_key i) d 1 (row (codes "region") (codes "first") (Number (pos 0) (pos 4294967295) false)) parts.1 refl)) in
    let high = ends (integer_in (codes "first") d) (pos 4294967295) (integer_in (codes "last") d)
    (number_in_table (codes "region") (codes "last") (integer_in (codes "first") d) (pos 4294967295) false d table (inner_right (region_key i) d 2 (row (codes "region") (codes "last") (Number (integer_in (codes "first") d) (pos 4294967295) false)) parts.1 refl)) in record {
      words = record {
        first = natural_le (integer_in (codes "first") d) (pos 4294967295) low.1;
        last = natural_le (integer_in (codes "last") d) (pos 4294967295) high.1;
      };
      ordered = natural_le (integer_in (codes "first") d) (integer_in (codes "last") d) high.0;
    }

elements_right : (i : ℕ) (ds : Items) → gathered_items element_faults i ds ≡ [] → AreRight ds
elements_right i no_items h = tt
elements_right i (item d ds) h =
    let parts = nil_parts (element_faults i d) (gathered_items element_faults (suc i) ds) h in
    (element_right i d parts.0, elements_right (suc i) ds parts.1)

-- the regions of a document without a fault
pub regions_right : (d : Data) → faults d ≡ [] → AreRight (elements d)
unfolding faults
regions_right d h = elements_right 0 (elements d) (nil_parts (gathered (row_faults d) rows) (gathered_items element_faults 0 (elements d)) h).1

pub words_from : (ds : Items) → AreRight ds → HaveWords ds
words_from no_items h = tt
words_from (item d ds) h = (h.0.words, words_from ds h.1)

pub ordered_from : (ds : Items) → AreRight ds → (k : ℕ) (r : Region) → k < length (regions_of ds) → (get_or (regions_of ds) k r).first ≤ (get_or (regions_of ds) k r).last
ordered_from no_items h k r within = absurd (omega arith)
ordered_from (item d ds) h zero r within = h.0.ordered
ordered_from (item d ds) h (suc k) r within = ordered_from ds h.1 k r (omega arith)

regions_count : (ds : Items) → length (regions_of ds) ≡ count ds
regions_count no_items = refl
regions_count (item d ds) = ap suc (regions_count ds)

few_items : (o : Option Items) → array_fault (pos 64) o ≡ None → count (items_in o) ≤ 64
few_items None h = omega arith
few_items (Some ds) h =
    let test : int_le (pos (count ds)) (pos 64) ≡ true = none_from (int_le (pos (count ds)) (pos 64)) _ h in
    grind (arith, ints)

few_found : (o : Option Data) → fault_of (Array (pos 64)) o ≡ None → count (items_in (option_and_then as_array o)) ≤ 64
few_found None h = omega arith
few_found (Some d) h = few_items (as_array d) h

-- no more than 64
pub few : (d : Data) → is_some (as_table d) ≡ true → faults d ≡ [] → length (regions_of (elements d)) ≤ 64
unfolding rows
few d table h =
    rw (regions_count (elements d)) (few_found (get (codes "region") d) (top_right [] (codes "region") (Array (pos 64)) d table (row_right d 22 (row [] (codes "region") (Array (pos 64))) h refl)))

apart_from : (a b : Region) → (Meet a b → ⊥) → AreApart a b
apart_from a b h = elim (cases_lt a.last b.first) [
  | inl before ↦ inl before
  | inr begins ↦ elim (cases_lt b.last a.first) [
    | inl behind ↦ inr behind
    | inr other ↦ absurd (h (record { first_begins = other; second_begins = begins }))
  ]
]

swapped : (a b : Region) → AreApart a b → AreApart b a
swapped a b (inl h) = inr h
swapped a b (inr h) = inl h

pair_apart : (rs : List Region) (i j : ℕ) (a b : Region) → NoneMeet rs → i < j → slice_get rs i ≡ Some a → slice_get rs j ≡ Some b → AreApart a b
pair_apart rs i j a b none less at_i at_j =
    let first : region_in rs i ≡ a = get_or_from_slice_get rs i a no_region at_i in
    let second : region_in rs j ≡ b = get_or_from_slice_get rs j b no_region at_j in
    apart_from a b (λ m. none.apart i j less (slice_get_within rs j b at_j) (subst (λ (x : Region). Meet x (region_in rs j)) (sym first) (subst (Meet a) (sym second) m)))

-- regions of which none meet have no address in common
pub all_apart : (rs : List Region) → NoneMeet rs → (i j : ℕ) (a b : Region) → i ≢ j → slice_get rs i ≡ Some a → slice_get rs j ≡ Some b → AreApart a b
all_apart rs none i j a b differ at_i at_j = elim (cases_lt i j) [
  | inl less ↦ pair_apart rs i j a b none less at_i at_j
  | inr more ↦ elim (cases_lt j i) [
    | inl less ↦ swapped b a (pair_apart rs j i b a none less at_j at_i)
    | inr same ↦ absurd (differ (omega arith))
  ]
]

-- one region more
regions_last : (vs : List Value) (i : ℕ) (d : Value) → i < length vs → regions_of (items_view (take (suc i) vs)) ≡ regions_of (items_view (take i vs)) ++ region_of (view (get_or vs i d)) ∷ []
regions_last [] i d h = absurd (omega arith)
regions_last (v ∷ vs) zero d h = refl
regions_last (v ∷ vs) (suc i) d h = ap (λ rs. region_of (view v) ∷ rs) (regions_last vs i d (omega arith))

pub regions_more : (vs : List Value) (i : ℕ) (v : Value) (r : Region) (now new : List Region) → i < length vs → v ≡ get_or vs i v → now ≡ regions_of (items_view (take i vs)) → r ≡ region_of (view v) → new ≡ now ++ r ∷ []
    → new ≡ regions_of (items_view (take (i + 1) vs))
regions_more vs i v r now new within is past made step =
    step ∙ ap (λ (rs : List Region). rs ++ r ∷ []) past ∙ ap (λ (x : Region). regions_of (items_view (take i vs)) ++ x ∷ []) (made ∙ ap (λ (w : Value). region_of (view w)) is)
    ∙ sym (rw add-one (regions_last vs i v within))

-- the addresses of a region in a list
pub words_at : (vs : List Value) (i : ℕ) (v : Value) → HaveWords (items_view vs) → i < length vs → v ≡ get_or vs i v → HasWords (view v)
words_at [] i v h within is = absurd (omega arith)
words_at (x ∷ vs) zero v h within is = subst (λ (w : Value). HasWords (view w)) (sym is) h.0
words_at (x ∷ vs) (suc i) v h within is = words_at vs i v h.1 (omega arith) is
