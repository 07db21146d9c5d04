-- What a text tells can be written.
use Rattle.std.proofs.Common.{◌≡◌, ℕ, zero, suc, ◌<◌, ◌≤◌, ◌^◌, true, false, List, [], ◌∷◌, length, map, replicate, Some, None, refl, sym, ◌∙◌, ap, subst, arith, true≢false}
use Rattle.std.specs.Prelude.{Option, slice_index_or, filter_map}
use Rattle.std.specs.List.{cons_option}
use Rattle.std.specs.Ordering.{nat_cmp}
use Rattle.std.specs.Cmp.Lexicographic.{slice_cmp}
use Rattle.std.proofs.lemmas.Cmp.{nat_list_cmp_total, eq_by_cmp_equiv}
use Rattle.std.proofs.lemmas.Map.Keys.{IsDistinct-from_sorted}
use Rattle.std.proofs.lemmas.Map.Made.{length-le_from_is_member}
use Rattle.pipe_time.specs.declared.vector.Vector.{Vector}
use Rattle.cert_lines.specs.declared.kind.Version.{Version}
use Rattle.cert_lines.specs.declared.kind.Kind.{Kind}
use Rattle.cert_lines.specs.declared.kind.Kind.TheVariants as kind
use Rattle.cert_lines.specs.Table.{part_of}
use Rattle.cert_lines.specs.Grammar.{Line, IsText}
use Rattle.cert_items.specs.declared.item.Pair.{Pair}
use Rattle.cert_items.specs.declared.item.Item.{Item}
use Rattle.cert_items.specs.declared.item.Item.TheVariants as item
use Rattle.cert_items.specs.Said.{kind_of, most}
use Rattle.cert_items.specs.Order.{slots_of}
use Rattle.cert_items.specs.Faults.{AreAllItems}
use Rattle.cert_text.specs.Told.{multiplier_in, listed_in, front_vectors, placed, family_in, families_in, certificate_of}
use Rattle.cert_text.specs.Pool.{is_same, is_listed, is_of, is_used, HasVectors}
use Rattle.cert_text.specs.Writable.{IsWritable}
use Rattle.cert_text.proofs.PlaceLemmas.{or_left, or_right, split}
use Rattle.cert_text.proofs.ChainLemmas.{lines_bytes, ordered_of, kinds_are, Chain, begun_of, Rises, chain_rises}
use Rattle.cert_text.proofs.PartLemmas.{option_longer, filter_length, charges_fit, multipliers_fit, totals_fit, bound_fit, charges_ascend, totals_ascend}
use Rattle.cert_text.proofs.FamilyLemmas.{listed_fit, listed_sorted, second_leads, families_fit}

-- ---- the parts rise from the head on
all_rise : (v : Version) (to : Option Kind) (items : List Item) (kinds : List Kind) → kind.Head ∷ kinds ≡ map kind_of items → Chain v (Some kind.Head) kinds to → Rises 0 items
all_rise v to [] kinds e c = tt
all_rise v to (x ∷ items) kinds e c =
    let first : kind.Head ≡ kind_of x = cc in
    let others : kinds ≡ map kind_of items = cc in
    (omega arith, subst (λ (k : Kind). Rises (part_of (Some k)) items) first (chain_rises v (Some kind.Head) to items kinds others c))

-- ---- how many vectors there are
-- the slots that a line tells
abbrev slots_in : Item → Option (List ℕ)
slots_in (item.Vector potential pairs) = Some (slots_of pairs)
slots_in (item.Listed pairs) = Some (slots_of pairs)
slots_in other = None

abbrev told : List Item → List (List ℕ)
told items = filter_map slots_in items

abbrev zeros : List ℕ
zeros = replicate 35 0

more_listed : (x : Item) (q : List ℕ) (rest : List (List ℕ)) → is_listed q rest ≡ true → is_listed q (cons_option (slots_in x) rest) ≡ true
more_listed x q rest e = by (slots_in x)
  where
    by : (o : Option (List ℕ)) → is_listed q (cons_option o rest) ≡ true
    by None = e
    by (Some s) = or_right (is_same q s) (is_listed q rest) e

-- the vectors at the front are told
front_told : (items : List Item) (q : List ℕ) → is_of q (front_vectors items) ≡ true → is_listed q (told items) ≡ true
front_told [] q e = absurd (true≢false (sym e))
front_told (item.Vector p pairs ∷ items) q e =
    split (is_same q (slots_of pairs)) (is_of q (front_vectors items)) e (is_listed q (told (item.Vector p pairs ∷ items)) ≡ true)
    (λ h. or_left (is_same q (slots_of pairs)) (is_listed q (told items)) h)
    (λ h. or_right (is_same q (slots_of pairs)) (is_listed q (told items)) (front_told items q h))
front_told (x ∷ items) q e = absurd (true≢false (sym e))

-- the different vectors are told
listed_told : (items : List Item) (q : List ℕ) (i : ℕ) → is_same q (slice_index_or (filter_map listed_in items) i (record { slots = replicate 35 0 })).slots ≡ true → is_listed q (zeros ∷ told items) ≡ true
listed_told [] q i e = or_left (is_same q zeros) false e
listed_told (item.Listed pairs ∷ items) q zero e = or_right (is_same q zeros) (is_listed q (told (item.Listed pairs ∷ items))) (or_left (is_same q (slots_of pairs)) (is_listed q (told items)) e)
listed_told (item.Listed pairs ∷ items) q (suc i) e =
    split (is_same q zeros) (is_listed q (told items)) (listed_told items q i e) (is_listed q (zeros ∷ told (item.Listed pairs ∷ items)) ≡ true)
    (λ h. or_left (is_same q zeros) (is_listed q (told (item.Listed pairs ∷ items))) h)
    (λ h. or_right (is_same q zeros) (is_listed q (told (item.Listed pairs ∷ items))) (more_listed (item.Listed pairs) q (told items) h))
listed_told (x ∷ items) q i e =
    split (is_same q zeros) (is_listed q (told items)) (listed_told items q i e) (is_listed q (zeros ∷ told (x ∷ items)) ≡ true)
    (λ h. or_left (is_same q zeros) (is_listed q (told (x ∷ items))) h)
    (λ h. or_right (is_same q zeros) (is_listed q (told (x ∷ items))) (more_listed x q (told items) h))

placed_told : (vectors : List Vector) (all : List (List ℕ)) (places : List Pair) (q : List ℕ) → ((i : ℕ) → is_same q (slice_index_or vectors i (record { slots = replicate 35 0 })).slots ≡ true → is_listed q all ≡ true)
    → is_of q (map (placed vectors) places) ≡ true → is_listed q all ≡ true
placed_told vectors all [] q f e = absurd (true≢false (sym e))
placed_told vectors all (p ∷ places) q f e =
    split (is_same q (slice_index_or vectors p.right (record { slots = replicate 35 0 })).slots) (is_of q (map (placed vectors) places)) e (is_listed q all ≡ true)
    (λ h. f p.right h) (λ h. placed_told vectors all places q f h)

used_told : (vectors : List Vector) (all : List (List ℕ)) (items : List Item) (q : List ℕ) → ((i : ℕ) → is_same q (slice_index_or vectors i (record { slots = replicate 35 0 })).slots ≡ true → is_listed q all ≡ true)
    → (is_listed q (told items) ≡ true → is_listed q all ≡ true) → is_used q (families_in vectors items) ≡ true → is_listed q all ≡ true
used_told vectors all [] q f g e = absurd (true≢false (sym e))
used_told vectors all (item.Node number count ∷ items) q f g e =
    split (is_of q (front_vectors items)) (is_used q (families_in vectors items)) e (is_listed q all ≡ true)
    (λ h. g (front_told items q h)) (λ h. used_told vectors all items q f g h)
used_told vectors all (item.Places number places ∷ items) q f g e =
    split (is_of q (map (placed vectors) places)) (is_used q (families_in vectors items)) e (is_listed q all ≡ true)
    (λ h. placed_told vectors all places q f h) (λ h. used_told vectors all items q f g h)
used_told vectors all (x ∷ items) q f g e = used_told vectors all items q f (λ h. g (more_listed x q (told items) h)) e

head_tells : (x : Item) → kind.Head ≡ kind_of x → slots_in x ≡ None
head_tells (item.Vector p s) e = absurd (cc)
head_tells (item.Listed s) e = absurd (cc)
head_tells x e = refl

fewer_told : (items : List Item) (kinds : List Kind) → kind.Head ∷ kinds ≡ map kind_of items → length (zeros ∷ told items) ≤ length items
fewer_told [] kinds e = absurd (cc)
fewer_told (x ∷ items) kinds e =
    let first : kind.Head ≡ kind_of x = cc in
    let n : length (filter_map slots_in items) ≤ length items = filter_length slots_in items in
    rw (head_tells x first) (omega (arith, n))

vectors_few : (items : List Item) (kinds : List Kind) (count : ℕ) → kind.Head ∷ kinds ≡ map kind_of items → HasVectors (families_in (filter_map listed_in items) items) count → count ≤ length items
vectors_few items kinds count e h =
    let all = zeros ∷ told items in
    let within : (q : List ℕ) → is_listed q h.pool ≡ true → is_listed q all ≡ true =
    λ q listed. used_told (filter_map listed_in items) all items q (λ i same. listed_told items q i same) (λ g. or_right (is_same q zeros) (is_listed q (told items)) g) (sym (h.different.same q) ∙ listed) in
    let n : length h.pool ≤ length all =
    length-le_from_is_member (eq_by_cmp_equiv nat_list_cmp_total) h.pool all (IsDistinct-from_sorted (slice_cmp nat_cmp) h.pool h.different.sorted) within in
    let m = fewer_told items kinds e in
    let c = h.counted in
    omega (arith, n, m, c)

families_few : (vectors : List Vector) (items : List Item) → length (families_in vectors items) ≤ length items
families_few vectors [] = omega arith
families_few vectors (x ∷ items) = let n = option_longer (family_in vectors x items) (families_in vectors items) (length items) (families_few vectors items) in omega (arith, n)

below : (n m size most : ℕ) → n ≤ m → m ≤ size → size < most → n < most
below n m size most a b c = omega arith

pub writable_of : (bytes : List ℕ) (v : Version) (lines : List Line) (items : List Item) → IsText bytes v lines → AreAllItems lines items → length bytes < 2 ^ 32 → IsWritable (certificate_of items)
writable_of bytes v lines items text a size =
    let o = ordered_of lines items a.so in
    let b = begun_of v lines kind.End bytes text in
    let kinds = kinds_are lines items a in
    let heads : kind.Head ∷ map (λ (l : Line). l.kind) b.behind ≡ map kind_of items = sym (ap (map (λ (l : Line). l.kind)) b.is) ∙ kinds in
    let r : Rises 0 items = all_rise v (Some kind.End) items (map (λ (l : Line). l.kind) b.behind) heads b.chain in
    let many : length items ≤ length bytes = subst (λ n. n ≤ length bytes) (sym a.all) (lines_bytes v lines (Some kind.End) bytes text) in
    let vectors = filter_map listed_in items in
    record {
      nodes = below (length (families_in vectors items)) (length items) (length bytes) (2 ^ 32) (families_few vectors items) many size;
      vectors = λ count h. below count (length items) (length bytes) (2 ^ 32) (vectors_few items (map (λ (l : Line). l.kind) b.behind) count heads h) many size;
      families = families_fit lines [] items vectors (second_leads lines items kinds) (omega arith) (listed_sorted lines [] items r o) (listed_fit lines [] items o) o;
      charges = charges_fit lines [] items o;
      charge_order = charges_ascend lines [] items r o;
      loops = below (length (filter_map multiplier_in items)) (length items) (length bytes) (2 ^ 32) (filter_length multiplier_in items) many size;
      multipliers = multipliers_fit lines [] items o;
      totals = totals_fit lines [] items o;
      total_order = totals_ascend lines [] items r o;
      bound = bound_fit lines [] items o;
    }
