-- The text that is written of a certificate tells it.
use Rattle.std.proofs.Common.{◌≡◌, ℕ, ◌<◌, ◌≤◌, ◌^◌, true, false, ◌==◌, List, [], ◌∷◌, ◌++◌, length, map, Some, None, get_or, refl, sym, ◌∙◌, ap, subst, arith, append_assoc}
use Rattle.std.specs.Prelude.{slice_get}
use Rattle.std.specs.List.{AllByRecursion}
use Rattle.std.proofs.lemmas.Bool.Decides.{nat_tests}
use Rattle.std.proofs.lemmas.List.{length-map}
use Rattle.std.proofs.lemmas.Option.{slice_get-get_or}
use Rattle.std.proofs.lemmas.Map.Keys.{any_passes_from_place}
use Rattle.cert_lines.specs.declared.kind.Version.TheVariants.{One, Two}
use Rattle.cert_lines.specs.declared.kind.Kind.TheVariants as kind
use Rattle.cert_lines.specs.Table.{part_of, lies}
use Rattle.cert_lines.specs.Grammar.{Line, IsText, AreLines}
use Rattle.cert_lines.specs.Grammar.AreLines.{empty}
use Rattle.cert_items.specs.declared.item.Pair.{Pair}
use Rattle.cert_items.specs.declared.item.Item.{Item}
use Rattle.cert_items.specs.declared.item.Item.TheVariants as item
use Rattle.cert_items.specs.Said.{kind_of, most, Fits}
use Rattle.cert_items.specs.Order.{is_kind, is_node, is_multiplier, is_named, last_of}
use Rattle.cert_items.specs.Faults.AreItems.{none}
use Rattle.cert_text.specs.declared.certificate.Charge.{Charge}
use Rattle.cert_text.specs.declared.certificate.TotalPrice.{TotalPrice}
use Rattle.cert_text.specs.declared.certificate.Certificate.{Certificate}
use Rattle.cert_text.specs.Text.{IsTextOf}
use Rattle.cert_text.specs.Pool.{is_same, is_used, IsPool}
use Rattle.cert_text.specs.Written.{listed_item, node_items, charge_item, multiplier_items, total_item, price_items, items_of, text_of, IsWritten}
use Rattle.cert_text.specs.Writable.{IsWritable}
use Rattle.cert_text.proofs.PoolLemmas.{same_self, one_pool}
use Rattle.cert_text.proofs.PlaceLemmas.{all_listed, place_of_get}
use Rattle.cert_text.proofs.TellLemmas.{all_map, all_nodes, all_multipliers, all_append, told_again}
use Rattle.cert_text.proofs.LineLemmas.{line_of, line_by, AreFront, IsOfPart, front_all}
use Rattle.cert_text.proofs.OrderLemmas.{AreOrdered, ordered_append, items_of_ordered, IsLow, low_all, count_none, charges_first, totals_first, multipliers_ordered}
use Rattle.cert_text.proofs.OrderLemmas.AreOrdered.{done, next}
use Rattle.cert_text.proofs.NodeLemmas.{AreFitSlots, used_fit, pool_fit, listed_ordered, leading_none, leading_listed, nodes_ordered, all_named}

-- ---- the fits of an order
fits_of : (lines : List Line) (before behind : List Item) → AreOrdered lines before behind → AllByRecursion Fits behind
fits_of lines before [] done = tt
fits_of lines before (x ∷ behind) (next y fits so rest) = (fits, fits_of lines (before ++ x ∷ []) behind rest)

-- ---- parts
in_part : (low high p : ℕ) → low ≤ p → p ≤ high → lies low high p ≡ true
in_part low high p a b = grind (arith, nat_tests)

listed_part : (slots : List ℕ) → IsOfPart 3 (listed_item slots)
listed_part slots = record { is = refl; stand = λ p a b. in_part 2 3 p a b; same = refl }

node_part : (number : ℕ) (places : List Pair) → IsOfPart 4 (item.Places number places)
node_part number places = record { is = refl; stand = λ p a b. in_part 2 4 p a b; same = refl }

charge_part : (charge : Charge) → IsOfPart 5 (charge_item charge)
charge_part charge = record { is = refl; stand = λ p a b. in_part 2 5 p a b; same = refl }

multiplier_part : (number amount : ℕ) → IsOfPart 6 (item.Multiplier number amount)
multiplier_part number amount = record { is = refl; stand = λ p a b. in_part 2 6 p a b; same = refl }

total_part : (total : TotalPrice) → IsOfPart 7 (total_item total)
total_part total = record { is = refl; stand = λ p a b. in_part 2 7 p a b; same = refl }

-- ---- the blocks behind one another
module _ (vectors : List (List ℕ)) (c : Certificate) where
  abbrev pub opening : List Item
  opening = item.Head Two ∷ item.Count (length vectors) ∷ []

  abbrev pub listed : List Item
  listed = map listed_item vectors

  abbrev pub nodes : List Item
  nodes = node_items vectors 0 c.families

  abbrev pub charges : List Item
  charges = map charge_item c.charges

  abbrev pub multipliers : List Item
  multipliers = multiplier_items 0 c.multipliers

  abbrev pub totals : List Item
  totals = map total_item c.totals

  abbrev pub ending : List Item
  ending = item.Bound c.bound ∷ item.End ∷ []

  -- what stands in order, block by block, among some lines
  pub record AreBlocks (lines : List Line) : Type 0 where
    pub first : AreOrdered lines [] opening
    pub second : AreOrdered lines opening listed
    pub third : AreOrdered lines (opening ++ listed) nodes
    pub fourth : AreOrdered lines ((opening ++ listed) ++ nodes) charges
    pub fifth : AreOrdered lines (((opening ++ listed) ++ nodes) ++ charges) multipliers
    pub sixth : AreOrdered lines ((((opening ++ listed) ++ nodes) ++ charges) ++ multipliers) totals
    pub last : AreOrdered lines (((((opening ++ listed) ++ nodes) ++ charges) ++ multipliers) ++ totals) ending

  pub all_ordered : (lines : List Line) → AreBlocks lines → AreOrdered lines [] (items_of vectors c)
  all_ordered lines b =
      ordered_append lines [] opening (listed ++ (nodes ++ (charges ++ (multipliers ++ (totals ++ ending))))) b.first
      (ordered_append lines opening listed (nodes ++ (charges ++ (multipliers ++ (totals ++ ending)))) b.second
      (ordered_append lines (opening ++ listed) nodes (charges ++ (multipliers ++ (totals ++ ending))) b.third
      (ordered_append lines ((opening ++ listed) ++ nodes) charges (multipliers ++ (totals ++ ending)) b.fourth
      (ordered_append lines (((opening ++ listed) ++ nodes) ++ charges) multipliers (totals ++ ending) b.fifth
      (ordered_append lines ((((opening ++ listed) ++ nodes) ++ charges) ++ multipliers) totals ending b.sixth b.last)))))

  blocks_are : ((((((opening ++ listed) ++ nodes) ++ charges) ++ multipliers) ++ totals) ++ item.Bound c.bound ∷ []) ++ item.End ∷ [] ≡ items_of vectors c
  blocks_are =
      append_assoc (((((opening ++ listed) ++ nodes) ++ charges) ++ multipliers) ++ totals) (item.Bound c.bound ∷ []) (item.End ∷ [])
      ∙ append_assoc ((((opening ++ listed) ++ nodes) ++ charges) ++ multipliers) totals ending
      ∙ append_assoc (((opening ++ listed) ++ nodes) ++ charges) multipliers (totals ++ ending)
      ∙ append_assoc ((opening ++ listed) ++ nodes) charges (multipliers ++ (totals ++ ending))
      ∙ append_assoc (opening ++ listed) nodes (charges ++ (multipliers ++ (totals ++ ending)))

  front : length vectors < 2 ^ 32 → AreFront opening 2
  front size =
      let head = line_by One [] None (item.Head Two) empty refl tt in
      record { last = Some kind.Count; lines = line_by Two (item.Head Two ∷ []) (Some kind.Head) (item.Count (length vectors)) head refl size; low = omega arith; high = omega arith }

  pub text_is : (lines : List Line) → length vectors < 2 ^ 32 → c.bound ≤ most → AreBlocks lines → IsText (text_of (items_of vectors c)) Two (map line_of (items_of vectors c))
  text_is lines size bound b =
      let f0 = front size in
      let f1 : AreFront (opening ++ listed) 3 = front_all opening listed 2 3 f0 (omega arith) (omega arith) (all_map (IsOfPart 3) listed_item listed_part vectors) (fits_of lines opening listed b.second) in
      let f2 : AreFront ((opening ++ listed) ++ nodes) 4 = front_all (opening ++ listed) nodes 3 4 f1 (omega arith) (omega arith) (all_nodes (IsOfPart 4) node_part vectors 0 c.families) (fits_of lines (opening ++ listed) nodes b.third) in
      let f3 : AreFront (((opening ++ listed) ++ nodes) ++ charges) 5 =
      front_all ((opening ++ listed) ++ nodes) charges 4 5 f2 (omega arith) (omega arith) (all_map (IsOfPart 5) charge_item charge_part c.charges) (fits_of lines ((opening ++ listed) ++ nodes) charges b.fourth) in
      let f4 : AreFront ((((opening ++ listed) ++ nodes) ++ charges) ++ multipliers) 6 =
      front_all (((opening ++ listed) ++ nodes) ++ charges) multipliers 5 6 f3 (omega arith) (omega arith) (all_multipliers (IsOfPart 6) multiplier_part 0 c.multipliers)
      (fits_of lines (((opening ++ listed) ++ nodes) ++ charges) multipliers b.fifth) in
      let f5 : AreFront (((((opening ++ listed) ++ nodes) ++ charges) ++ multipliers) ++ totals) 7 =
      front_all ((((opening ++ listed) ++ nodes) ++ charges) ++ multipliers) totals 6 7 f4 (omega arith) (omega arith) (all_map (IsOfPart 7) total_item total_part c.totals)
      (fits_of lines ((((opening ++ listed) ++ nodes) ++ charges) ++ multipliers) totals b.sixth) in
      let all = ((((opening ++ listed) ++ nodes) ++ charges) ++ multipliers) ++ totals in
      let g = line_by Two all f5.last (item.Bound c.bound) f5.lines (in_part 2 7 (part_of f5.last) f5.low f5.high) bound in
      let h = line_by Two (all ++ item.Bound c.bound ∷ []) (Some kind.Bound) item.End g refl tt in
      subst (λ (l : List Item). AreLines Two (map line_of l) (Some kind.End) (text_of l)) blocks_are h

equal_self : (n m : ℕ) → n ≡ m → (n == m) ≡ true
equal_self n m e = grind (arith, nat_tests)

abbrev NotListed : Item → Type 0
NotListed x = is_kind kind.Listed (kind_of x) ≡ false

not_listed : (vectors : List (List ℕ)) (c : Certificate) → AllByRecursion NotListed (nodes vectors c ++ price_items c)
not_listed vectors c =
    all_append NotListed (nodes vectors c) (price_items c) (all_nodes NotListed (λ n p. refl) vectors 0 c.families)
    (all_append NotListed (charges vectors c) (multipliers vectors c ++ (totals vectors c ++ ending vectors c)) (all_map NotListed charge_item (λ a. refl) c.charges)
    (all_append NotListed (multipliers vectors c) (totals vectors c ++ ending vectors c) (all_multipliers NotListed (λ n a. refl) 0 c.multipliers)
    (all_append NotListed (totals vectors c) (ending vectors c) (all_map NotListed total_item (λ a. refl) c.totals) (refl, (refl, tt)))))

-- each place is named
named : (vectors : List (List ℕ)) (c : Certificate) → IsPool c.families vectors → length vectors < 2 ^ 32 → (i : ℕ) → i < length vectors → is_named (map line_of (items_of vectors c)) i ≡ true
named vectors c d size i inside =
    let slots : List ℕ = get_or vectors i [] in
    let here : slice_get vectors i ≡ Some slots = slice_get-get_or vectors i [] inside in
    let used : is_used slots c.families ≡ true = sym (d.same slots) ∙ any_passes_from_place (is_same slots) vectors i slots here (same_self slots) in
    all_named (opening vectors c ++ listed vectors c) vectors c.families slots i (price_items c) (omega (arith, inside, size)) (place_of_get vectors i slots d.sorted here) used

pub blocks : (vectors : List (List ℕ)) (c : Certificate) → IsWritable c → IsPool c.families vectors → length vectors < 2 ^ 32 → AreBlocks vectors c (map line_of (items_of vectors c))
blocks vectors c w d size =
    let lines = map line_of (items_of vectors c) in
    let o = opening vectors c in
    let l = listed vectors c in
    let n = nodes vectors c in
    let k = charges vectors c in
    let m = multipliers vectors c in
    let t = totals vectors c in
    let many = leading_listed vectors (nodes vectors c ++ price_items c) (leading_none (nodes vectors c ++ price_items c) (not_listed vectors c)) in
    let fit : AllByRecursion AreFitSlots vectors = pool_fit AreFitSlots vectors (λ slots e. used_fit c.families w.families slots (sym (d.same slots) ∙ e)) in
    let nodes_size = w.nodes in
    let loops_size = w.loops in
    let low3 : IsLow 3 (last_of (o ++ l)) = low_all o l 2 3 (omega arith) (omega arith) (all_map (λ x. part_of (Some (kind_of x)) ≡ 3) listed_item (λ a. refl) vectors) in
    let low4 : IsLow 4 (last_of ((o ++ l) ++ n)) = low_all (o ++ l) n 3 4 low3 (omega arith) (all_nodes (λ x. part_of (Some (kind_of x)) ≡ 4) (λ a b. refl) vectors 0 c.families) in
    let low5 : IsLow 5 (last_of (((o ++ l) ++ n) ++ k)) = low_all ((o ++ l) ++ n) k 4 5 low4 (omega arith) (all_map (λ x. part_of (Some (kind_of x)) ≡ 5) charge_item (λ a. refl) c.charges) in
    let low6 : IsLow 6 (last_of ((((o ++ l) ++ n) ++ k) ++ m)) = low_all (((o ++ l) ++ n) ++ k) m 5 6 low5 (omega arith) (all_multipliers (λ x. part_of (Some (kind_of x)) ≡ 6) (λ a b. refl) 0 c.multipliers) in
    record {
      first = next (item.Head Two) tt refl (next (item.Count (length vectors)) size (equal_self (length vectors) _ (sym many)) done);
      second = listed_ordered lines o vectors (named vectors c d size) (λ pairs. refl) refl d.sorted fit;
      third = nodes_ordered lines (o ++ l) vectors 0 c.families (count_none is_node o l (all_map (λ x. is_node x ≡ false) listed_item (λ a. refl) vectors)) refl d.sorted size (omega (arith, nodes_size))
          (all_listed vectors c.families (λ slots e. d.same slots ∙ e)) w.families;
      fourth = charges_first lines ((o ++ l) ++ n) c.charges low4 w.charges w.charge_order;
      fifth = multipliers_ordered lines (((o ++ l) ++ n) ++ k) 0 c.multipliers
          (count_none is_multiplier ((o ++ l) ++ n) k (all_map (λ x. is_multiplier x ≡ false) charge_item (λ a. refl) c.charges)
          ∙ count_none is_multiplier (o ++ l) n (all_nodes (λ x. is_multiplier x ≡ false) (λ a b. refl) vectors 0 c.families)
          ∙ count_none is_multiplier o l (all_map (λ x. is_multiplier x ≡ false) listed_item (λ a. refl) vectors)) (omega (arith, loops_size)) w.multipliers;
      sixth = totals_first lines ((((o ++ l) ++ n) ++ k) ++ m) c.totals low6 w.totals w.total_order;
      last = next (item.Bound c.bound) w.bound refl (next item.End tt refl done);
    }

pub written_tells : (c : Certificate) (bytes : List ℕ) → IsWritable c → IsWritten bytes c → IsTextOf bytes c
written_tells c bytes w t =
    let vectors = t.pool in
    let d = t.different in
    let size : length vectors < 2 ^ 32 = w.vectors (length vectors) (record { pool = vectors; different = d; counted = refl }) in
    let items = items_of vectors c in
    let b = blocks vectors c w d size in
    let fit : AllByRecursion (λ slots. length slots ≡ 35) vectors = pool_fit (λ slots. length slots ≡ 35) vectors (λ slots e. (used_fit c.families w.families slots (sym (d.same slots) ∙ e)).size) in
    record {
      version = Two;
      lines = map line_of items;
      text = subst (λ x. IsText x Two (map line_of items)) (sym t.text) (text_is vectors c (map line_of items) size w.bound b);
      items = items;
      so = record { so = items_of_ordered items [] items refl none (all_ordered vectors c (map line_of items) b); all = sym (length-map items line_of) };
      is = told_again vectors c d.sorted fit (all_listed vectors c.families (λ slots e. d.same slots ∙ e));
    }

-- a certificate has one text
pub one_text : (c : Certificate) (a b : List ℕ) → IsWritten a c → IsWritten b c → a ≡ b
one_text c a b t u = t.text ∙ ap (λ (vectors : List (List ℕ)). text_of (items_of vectors c)) (one_pool c.families t.pool u.pool t.different u.different) ∙ sym u.text
