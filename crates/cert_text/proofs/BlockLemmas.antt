-- The lines of version 2 block by block.
use Rattle.std.proofs.Common.{◌≡◌, ℕ, zero, suc, ◌+◌, ◌<◌, ◌≤◌, true, ◌&&◌, ◌==◌, List, [], ◌∷◌, ◌++◌, length, map, replicate, Some, refl, sym, ◌∙◌, ap, subst, arith, append_assoc, append-nil}
use Rattle.std.specs.Prelude.{Option, slice_get, count_by}
use Rattle.std.specs.List.{AllByRecursion}
use Rattle.std.proofs.lemmas.Bool.{and_parts, false≢true}
use Rattle.std.proofs.lemmas.Bool.Decides.{nat_tests}
use Rattle.cert_lines.specs.declared.kind.Version.TheVariants.{Two}
use Rattle.cert_lines.specs.declared.kind.Kind.{Kind}
use Rattle.cert_lines.specs.declared.kind.Kind.TheVariants as kind
use Rattle.cert_lines.specs.Table.{part_of, may_stand}
use Rattle.cert_lines.specs.Grammar.{Line}
use Rattle.cert_items.specs.declared.item.Pair.{Pair}
use Rattle.cert_items.specs.declared.item.Item.{Item}
use Rattle.cert_items.specs.declared.item.Item.TheVariants as item
use Rattle.cert_items.specs.Said.{kind_of, Fits}
use Rattle.cert_items.specs.Order.{is_node, is_listed, is_multiplier, is_named, are_in_order, are_placed, is_above_vector, last_of, counted, slots_of, is_in_order}
use Rattle.cert_text.specs.declared.certificate.Charge.{Charge}
use Rattle.cert_text.specs.declared.certificate.TotalPrice.{TotalPrice}
use Rattle.cert_text.specs.Written.{listed_item, charge_item, multiplier_items, total_item}
use Rattle.cert_text.proofs.OrderLemmas.{AreOrdered, count_push}
use Rattle.cert_text.proofs.OrderLemmas.AreOrdered.{next}
use Rattle.cert_text.proofs.ChainLemmas.{Chain, Rises, chain_rises, stand_rises, below_high}
use Rattle.cert_text.proofs.ChainLemmas.Chain.{stay, step}
use Rattle.cert_text.proofs.BackLemmas.{pairs_again}
use Rattle.cert_text.proofs.FamilyLemmas.{fill_long}

-- lines of version 2 behind a line and others, as far as the end
pub record AreLeft (lines : List Line) (front : List Item) (part : ℕ) (items : List Item) : Type 0 where
  pub from : Option Kind
  pub low : 2 ≤ part_of from
  pub high : part_of from ≤ part
  pub chain : Chain Two from (map kind_of items) (Some kind.End)
  pub rises : Rises part items
  pub ordered : AreOrdered lines front items

-- the lines are a block and others behind it, of later parts
pub record AreSplit (lines : List Line) (front : List Item) (part : ℕ) (items block : List Item) : Type 0 where
  pub behind : List Item
  pub is : items ≡ block ++ behind
  pub left : AreLeft lines (front ++ block) part behind

-- no block
split_none : (lines : List Line) (front : List Item) (part : ℕ) (items : List Item) → AreLeft lines front part items → AreSplit lines front part items []
split_none lines front part items l = record { behind = items; is = refl; left = subst (λ (f : List Item). AreLeft lines f part items) (sym (append-nil front)) l }

-- one line more before it
split_more : (lines : List Line) (front : List Item) (part : ℕ) (items block : List Item) (x : Item) → AreSplit lines (front ++ x ∷ []) part items block → AreSplit lines front part (x ∷ items) (x ∷ block)
split_more lines front part items block x s = record { behind = s.behind; is = ap (λ (l : List Item). x ∷ l) s.is; left = subst (λ (f : List Item). AreLeft lines f part s.behind) (append_assoc front (x ∷ []) block) s.left }

-- the next line
pub record IsNext (lines : List Line) (front : List Item) (part : ℕ) (x : Item) (items : List Item) : Type 0 where
  pub stand : may_stand Two part (kind_of x) ≡ true
  pub chain : Chain Two (Some (kind_of x)) (map kind_of items) (Some kind.End)
  pub fits : Fits x
  pub order : is_in_order lines front x ≡ true
  pub ordered : AreOrdered lines (front ++ x ∷ []) items

chain_first : (from : Option Kind) (k : Kind) (kinds : List Kind) → Chain Two from (k ∷ kinds) (Some kind.End) → (may_stand Two (part_of from) k ≡ true) × Chain Two (Some k) kinds (Some kind.End)
chain_first from k kinds (step j e rest) = (e, rest)

pub order_first : (lines : List Line) (front : List Item) (x : Item) (items : List Item) → AreOrdered lines front (x ∷ items) → Fits x × (is_in_order lines front x ≡ true) × AreOrdered lines (front ++ x ∷ []) items
order_first lines front x items (next y fits order rest) = (fits, order, rest)

next_of : (lines : List Line) (front : List Item) (part : ℕ) (x : Item) (items : List Item) (l : AreLeft lines front part (x ∷ items)) → IsNext lines front (part_of l.from) x items
next_of lines front part x items l =
    let c = chain_first l.from (kind_of x) (map kind_of items) l.chain in
    let o = order_first lines front x items l.ordered in
    record { stand = c.0; chain = c.1; fits = o.0; order = o.1; ordered = o.2 }

-- what is left behind a line
left_behind : (lines : List Line) (front : List Item) (from part : ℕ) (x : Item) (items : List Item) → IsNext lines front from x items → part_of (Some (kind_of x)) ≡ part → 2 ≤ part → AreLeft lines (front ++ x ∷ []) part items
left_behind lines front from part x items n e low =
    record {
      from = Some (kind_of x);
      low = subst (λ p. 2 ≤ p) (sym e) low;
      high = subst (λ p. p ≤ part) (sym e) (omega arith);
      chain = n.chain;
      rises = subst (λ p. Rises p items) e (chain_rises Two (Some (kind_of x)) (Some kind.End) items (map kind_of items) refl n.chain);
      ordered = n.ordered;
    }

-- nothing is left of the part: what stands first is of a later one
left_by : (lines : List Line) (front : List Item) (part : ℕ) (items : List Item) → AreLeft lines front part items → Rises (part + 1) items → AreLeft lines front (part + 1) items
left_by lines front part items l r = record { from = l.from; low = l.low; high = (let h = l.high in omega (arith, h)); chain = l.chain; rises = r; ordered = l.ordered }

-- ---- vectors
pub record HasListed (lines : List Line) (front : List Item) (number : ℕ) (items : List Item) : Type 0 where
  pub values : List (List ℕ)
  pub split : AreSplit lines front 4 items (map listed_item values)
  pub wide : AllByRecursion (λ slots. length slots ≡ 35) values
  pub named : (i : ℕ) → i < length values → is_named lines (number + i) ≡ true

no_slots : (lines : List Line) (front : List Item) (number : ℕ) (items : List Item) → AreLeft lines front 3 items → Rises 4 items → HasListed lines front number items
no_slots lines front number items l r = record { values = []; split = split_none lines front 4 items (left_by lines front 3 items l r); wide = tt; named = λ i inside. absurd (omega (arith, inside)) }

listed_named : (lines : List Line) (number : ℕ) (slots : List ℕ) (values : List (List ℕ)) → is_named lines number ≡ true → ((i : ℕ) → i < length values → is_named lines (number + 1 + i) ≡ true) → (i : ℕ) → i < length (slots ∷ values) → is_named lines (number + i) ≡ true
listed_named lines number slots values here rest zero inside = let e : number + 0 ≡ number = omega arith in ap (is_named lines) e ∙ here
listed_named lines number slots values here rest (suc i) inside = let e : number + suc i ≡ number + 1 + i = omega arith in ap (is_named lines) e ∙ rest i (omega (arith, inside))

pub has_listed : (lines : List Line) (front : List Item) (number : ℕ) (items : List Item) → count_by is_listed front ≡ number → AreLeft lines front 3 items → HasListed lines front number items
has_listed lines front number [] counts l = no_slots lines front number [] l tt
has_listed lines front number (item.Listed pairs ∷ items) counts l =
    let n = next_of lines front 3 (item.Listed pairs) items l in
    let one = and_parts (are_in_order pairs && is_above_vector (last_of front) pairs) (is_named lines (count_by is_listed front)) n.order in
    let two = and_parts (are_in_order pairs) (is_above_vector (last_of front) pairs) one.0 in
    let is : listed_item (slots_of pairs) ≡ item.Listed pairs = ap item.Listed (pairs_again pairs two.0 n.fits) in
    let rest = has_listed lines (front ++ item.Listed pairs ∷ []) (number + 1) items (count_push is_listed front (item.Listed pairs) ∙ ap (λ k. k + 1) counts) (left_behind lines front (part_of l.from) 3 (item.Listed pairs) items n refl (omega arith)) in
    record {
      values = slots_of pairs ∷ rest.values;
      split = subst (λ (x : Item). AreSplit lines front 4 (item.Listed pairs ∷ items) (x ∷ map listed_item rest.values)) (sym is) (split_more lines front 4 items (map listed_item rest.values) (item.Listed pairs) rest.split);
      wide = (fill_long (replicate 35 0) pairs, rest.wide);
      named = listed_named lines number (slots_of pairs) rest.values (ap (is_named lines) (sym counts) ∙ one.1) rest.named;
    }
has_listed lines front number (item.Head v ∷ items) counts l = absurd (let n = l.rises.0 in omega (arith, n))
has_listed lines front number (item.Count c ∷ items) counts l = absurd (let n = l.rises.0 in omega (arith, n))
has_listed lines front number (item.Node a b ∷ items) counts l = no_slots lines front number (item.Node a b ∷ items) l (omega arith, l.rises.1)
has_listed lines front number (item.Vector a b ∷ items) counts l = no_slots lines front number (item.Vector a b ∷ items) l (omega arith, l.rises.1)
has_listed lines front number (item.Places a b ∷ items) counts l = no_slots lines front number (item.Places a b ∷ items) l (omega arith, l.rises.1)
has_listed lines front number (item.Charge a b c ∷ items) counts l = no_slots lines front number (item.Charge a b c ∷ items) l (omega arith, l.rises.1)
has_listed lines front number (item.Multiplier a b ∷ items) counts l = no_slots lines front number (item.Multiplier a b ∷ items) l (omega arith, l.rises.1)
has_listed lines front number (item.Total a b ∷ items) counts l = no_slots lines front number (item.Total a b ∷ items) l (omega arith, l.rises.1)
has_listed lines front number (item.Bound a ∷ items) counts l = no_slots lines front number (item.Bound a ∷ items) l (omega arith, l.rises.1)
has_listed lines front number (item.End ∷ items) counts l = no_slots lines front number (item.End ∷ items) l (omega arith, l.rises.1)

-- ---- nodes
-- the lines of nodes with these places
abbrev pub places_items : ℕ → List (List Pair) → List Item
places_items number [] = []
places_items number (places ∷ nodes) = item.Places number places ∷ places_items (number + 1) nodes

pub record HasNodes (lines : List Line) (front : List Item) (number size : ℕ) (items : List Item) : Type 0 where
  pub nodes : List (List Pair)
  pub split : AreSplit lines front 5 items (places_items number nodes)
  pub placed : AllByRecursion (λ places. are_placed size places ≡ true) nodes

no_nodes : (lines : List Line) (front : List Item) (number size : ℕ) (items : List Item) → AreLeft lines front 4 items → Rises 5 items → HasNodes lines front number size items
no_nodes lines front number size items l r = record { nodes = []; split = split_none lines front 5 items (left_by lines front 4 items l r); placed = tt }

count_is : (m n : ℕ) → (m == n) ≡ true → m ≡ n
count_is m n e = grind (arith, nat_tests)

get_front : (before : List Item) (x y : Item) (k : ℕ) → slice_get before k ≡ Some y → slice_get (before ++ x ∷ []) k ≡ Some y
get_front [] x y k e = absurd (cc)
get_front (z ∷ before) x y zero e = e
get_front (z ∷ before) x y (suc k) e = get_front before x y k e

pub has_nodes : (lines : List Line) (front : List Item) (number size : ℕ) (items : List Item) → count_by is_node front ≡ number → slice_get front 1 ≡ Some (item.Count size) → AreLeft lines front 4 items → HasNodes lines front number size items
has_nodes lines front number size [] counts count l = no_nodes lines front number size [] l tt
has_nodes lines front number size (item.Places n places ∷ items) counts count l =
    let x : Item = item.Places n places in
    let s = next_of lines front 4 x items l in
    let one = and_parts (n == count_by is_node front) (are_placed (counted (slice_get front 1)) places) s.order in
    let e : n ≡ number = count_is n (count_by is_node front) one.0 ∙ counts in
    let rest = has_nodes lines (front ++ x ∷ []) (number + 1) size items (count_push is_node front x ∙ ap (λ k. k + 1) counts) (get_front front x (item.Count size) 1 count) (left_behind lines front (part_of l.from) 4 x items s refl (omega arith)) in
    record {
      nodes = places ∷ rest.nodes;
      split = subst (λ k. AreSplit lines front 5 (x ∷ items) (item.Places k places ∷ places_items (number + 1) rest.nodes)) e (split_more lines front 5 items (places_items (number + 1) rest.nodes) x rest.split);
      placed = (sym (ap (λ (o : Option Item). are_placed (counted o) places) count) ∙ one.1, rest.placed);
    }
has_nodes lines front number size (item.Node a b ∷ items) counts count l = absurd (false≢true (next_of lines front 4 (item.Node a b) items l).stand)
has_nodes lines front number size (item.Vector a b ∷ items) counts count l = absurd (false≢true (next_of lines front 4 (item.Vector a b) items l).stand)
has_nodes lines front number size (item.Head v ∷ items) counts count l = absurd (let n = l.rises.0 in omega (arith, n))
has_nodes lines front number size (item.Count c ∷ items) counts count l = absurd (let n = l.rises.0 in omega (arith, n))
has_nodes lines front number size (item.Listed s ∷ items) counts count l = absurd (let n = l.rises.0 in omega (arith, n))
has_nodes lines front number size (item.Charge a b c ∷ items) counts count l = no_nodes lines front number size (item.Charge a b c ∷ items) l (omega arith, l.rises.1)
has_nodes lines front number size (item.Multiplier a b ∷ items) counts count l = no_nodes lines front number size (item.Multiplier a b ∷ items) l (omega arith, l.rises.1)
has_nodes lines front number size (item.Total a b ∷ items) counts count l = no_nodes lines front number size (item.Total a b ∷ items) l (omega arith, l.rises.1)
has_nodes lines front number size (item.Bound a ∷ items) counts count l = no_nodes lines front number size (item.Bound a ∷ items) l (omega arith, l.rises.1)
has_nodes lines front number size (item.End ∷ items) counts count l = no_nodes lines front number size (item.End ∷ items) l (omega arith, l.rises.1)

-- ---- prices
pub record HasCharges (lines : List Line) (front items : List Item) : Type 0 where
  pub charges : List Charge
  pub split : AreSplit lines front 6 items (map charge_item charges)

no_charges : (lines : List Line) (front items : List Item) → AreLeft lines front 5 items → Rises 6 items → HasCharges lines front items
no_charges lines front items l r = record { charges = []; split = split_none lines front 6 items (left_by lines front 5 items l r) }

pub has_charges : (lines : List Line) (front items : List Item) → AreLeft lines front 5 items → HasCharges lines front items
has_charges lines front [] l = no_charges lines front [] l tt
has_charges lines front (item.Charge line scope amount ∷ items) l =
    let x : Item = item.Charge line scope amount in
    let rest = has_charges lines (front ++ x ∷ []) items (left_behind lines front (part_of l.from) 5 x items (next_of lines front 5 x items l) refl (omega arith)) in
    record { charges = record { line = line; scope = scope; amount = amount } ∷ rest.charges; split = split_more lines front 6 items (map charge_item rest.charges) x rest.split }
has_charges lines front (item.Multiplier a b ∷ items) l = no_charges lines front (item.Multiplier a b ∷ items) l (omega arith, l.rises.1)
has_charges lines front (item.Total a b ∷ items) l = no_charges lines front (item.Total a b ∷ items) l (omega arith, l.rises.1)
has_charges lines front (item.Bound a ∷ items) l = no_charges lines front (item.Bound a ∷ items) l (omega arith, l.rises.1)
has_charges lines front (item.End ∷ items) l = no_charges lines front (item.End ∷ items) l (omega arith, l.rises.1)
has_charges lines front (x ∷ items) l = absurd (let n = l.rises.0 in omega (arith, n))

pub record HasMultipliers (lines : List Line) (front : List Item) (number : ℕ) (items : List Item) : Type 0 where
  pub amounts : List ℕ
  pub split : AreSplit lines front 7 items (multiplier_items number amounts)

no_amounts : (lines : List Line) (front : List Item) (number : ℕ) (items : List Item) → AreLeft lines front 6 items → Rises 7 items → HasMultipliers lines front number items
no_amounts lines front number items l r = record { amounts = []; split = split_none lines front 7 items (left_by lines front 6 items l r) }

pub has_multipliers : (lines : List Line) (front : List Item) (number : ℕ) (items : List Item) → count_by is_multiplier front ≡ number → AreLeft lines front 6 items → HasMultipliers lines front number items
has_multipliers lines front number [] counts l = no_amounts lines front number [] l tt
has_multipliers lines front number (item.Multiplier n amount ∷ items) counts l =
    let x : Item = item.Multiplier n amount in
    let s = next_of lines front 6 x items l in
    let e : n ≡ number = count_is n (count_by is_multiplier front) s.order ∙ counts in
    let rest = has_multipliers lines (front ++ x ∷ []) (number + 1) items (count_push is_multiplier front x ∙ ap (λ k. k + 1) counts) (left_behind lines front (part_of l.from) 6 x items s refl (omega arith)) in
    record {
      amounts = amount ∷ rest.amounts;
      split = subst (λ k. AreSplit lines front 7 (x ∷ items) (item.Multiplier k amount ∷ multiplier_items (number + 1) rest.amounts)) e (split_more lines front 7 items (multiplier_items (number + 1) rest.amounts) x rest.split);
    }
has_multipliers lines front number (item.Total a b ∷ items) counts l = no_amounts lines front number (item.Total a b ∷ items) l (omega arith, l.rises.1)
has_multipliers lines front number (item.Bound a ∷ items) counts l = no_amounts lines front number (item.Bound a ∷ items) l (omega arith, l.rises.1)
has_multipliers lines front number (item.End ∷ items) counts l = no_amounts lines front number (item.End ∷ items) l (omega arith, l.rises.1)
has_multipliers lines front number (x ∷ items) counts l = absurd (let n = l.rises.0 in omega (arith, n))

pub record HasTotals (lines : List Line) (front items : List Item) : Type 0 where
  pub totals : List TotalPrice
  pub bound : ℕ
  pub is : items ≡ map total_item totals ++ item.Bound bound ∷ item.End ∷ []

no_line_behind : (k : Kind) (kinds : List Kind) → Chain Two (Some kind.End) (k ∷ kinds) (Some kind.End) → ⊥
no_line_behind k kinds (step j e rest) = none k e
  where
    none : (k : Kind) → may_stand Two 9 k ≡ true → ⊥
    none kind.Head e = false≢true e
    none kind.Count e = false≢true e
    none kind.Listed e = false≢true e
    none kind.Node e = false≢true e
    none kind.Vector e = false≢true e
    none kind.Places e = false≢true e
    none kind.Charge e = false≢true e
    none kind.Multiplier e = false≢true e
    none kind.Total e = false≢true e
    none kind.Bound e = false≢true e
    none kind.End e = false≢true e

last_is : (items : List Item) → Chain Two (Some kind.End) (map kind_of items) (Some kind.End) → items ≡ []
last_is [] c = refl
last_is (x ∷ items) c = absurd (no_line_behind (kind_of x) (map kind_of items) c)

-- behind the bound
bound_is : (from : Option Kind) (items : List Item) → part_of from ≡ 8 → Chain Two from (map kind_of items) (Some kind.End) → items ≡ item.End ∷ []
bound_is from [] e stay = absurd (omega (arith, e))
bound_is from (item.End ∷ items) e c = ap (λ (l : List Item). item.End ∷ l) (last_is items (chain_first from kind.End (map kind_of items) c).1)
bound_is from (item.Bound bound ∷ items) e c = absurd (let n = below_high 2 7 (part_of from) (chain_first from kind.Bound (map kind_of items) c).0 in omega (arith, n, e))
bound_is from (x ∷ items) e c = absurd (let n = stand_at (kind_of x) (chain_first from (kind_of x) (map kind_of items) c).0 in omega (arith, n, e))
  where
    stand_at : (k : Kind) → may_stand Two (part_of from) k ≡ true → part_of from ≤ part_of (Some k)
    stand_at k h = stand_rises Two (part_of from) k h

pub has_totals : (lines : List Line) (front items : List Item) → AreLeft lines front 7 items → HasTotals lines front items
has_totals lines front [] l = absurd (none l.from l.chain l.high)
  where
    none : (from : Option Kind) → Chain Two from [] (Some kind.End) → part_of from ≤ 7 → ⊥
    none from stay h = omega (arith, h)
has_totals lines front (item.Total address amount ∷ items) l =
    let x : Item = item.Total address amount in
    let rest = has_totals lines (front ++ x ∷ []) items (left_behind lines front (part_of l.from) 7 x items (next_of lines front 7 x items l) refl (omega arith)) in
    record { totals = record { address = address; amount = amount } ∷ rest.totals; bound = rest.bound; is = ap (λ (l : List Item). x ∷ l) rest.is }
has_totals lines front (item.Bound bound ∷ items) l =
    record { totals = []; bound = bound; is = ap (λ (l : List Item). item.Bound bound ∷ l) (bound_is (Some kind.Bound) items refl (next_of lines front 7 (item.Bound bound) items l).chain) }
has_totals lines front (item.End ∷ items) l = absurd (let e = count_is (part_of l.from) 8 (next_of lines front 7 item.End items l).stand in let h = l.high in omega (arith, e, h))
has_totals lines front (x ∷ items) l = absurd (let n = l.rises.0 in omega (arith, n))
