-- The certificate that the lines of version 2 tell.
use Rattle.std.proofs.Common.{◌≡◌, ℕ, zero, suc, ◌+◌, List, [], ◌∷◌, ◌++◌, length, map, Some, None, refl, sym, ◌∙◌, ap, append-nil}
use Rattle.std.specs.Prelude.{Option, slice_get, slice_index_or, filter_map, replicate}
use Rattle.std.specs.List.{AllByRecursion, cons_option}
use Rattle.pipe_time.specs.declared.vector.Vector.{Vector}
use Rattle.cert_items.specs.declared.item.Pair.{Pair}
use Rattle.cert_items.specs.declared.item.Item.{Item}
use Rattle.cert_items.specs.declared.item.Item.TheVariants as item
use Rattle.cert_text.specs.declared.certificate.CertVector.{CertVector}
use Rattle.cert_text.specs.declared.certificate.Charge.{Charge}
use Rattle.cert_text.specs.declared.certificate.TotalPrice.{TotalPrice}
use Rattle.cert_text.specs.declared.certificate.Certificate.{Certificate}
use Rattle.cert_text.specs.Told.{charge_in, multiplier_in, total_in, listed_in, bound_in, placed, family_in, families_in, certificate_of}
use Rattle.cert_text.specs.Pool.{place_in}
use Rattle.cert_text.specs.Written.{listed_item, place_of, node_items, charge_item, multiplier_items, total_item, price_items, items_of}
use Rattle.cert_text.proofs.PoolLemmas.{AreSorted}
use Rattle.cert_text.proofs.PlaceLemmas.{AreListed, place_get}
use Rattle.cert_text.proofs.PairLemmas.{slots_again}

-- ---- each line of a block
pub all_map : {A : Type 0} (P : Item → Type 0) (g : A → Item) → ((a : A) → P (g a)) → (values : List A) → AllByRecursion P (map g values)
all_map P g f [] = tt
all_map P g f (a ∷ values) = (f a, all_map P g f values)

pub all_nodes : (P : Item → Type 0) → ((number : ℕ) (places : List Pair) → P (item.Places number places)) → (pool : List (List ℕ)) (number : ℕ) (families : List (List CertVector)) → AllByRecursion P (node_items pool number families)
all_nodes P f pool number [] = tt
all_nodes P f pool number (family ∷ families) = (f number (map (place_of pool) family), all_nodes P f pool (number + 1) families)

pub all_multipliers : (P : Item → Type 0) → ((number amount : ℕ) → P (item.Multiplier number amount)) → (number : ℕ) (amounts : List ℕ) → AllByRecursion P (multiplier_items number amounts)
all_multipliers P f number [] = tt
all_multipliers P f number (amount ∷ amounts) = (f number amount, all_multipliers P f (number + 1) amounts)

pub all_append : (P : Item → Type 0) (xs ys : List Item) → AllByRecursion P xs → AllByRecursion P ys → AllByRecursion P (xs ++ ys)
all_append P [] ys a b = b
all_append P (x ∷ xs) ys a b = (a.0, all_append P xs ys a.1 b)

-- ---- lines that tell nothing of it
skip : {A : Type 0} (f : Item → Option A) (xs ys : List Item) → AllByRecursion (λ x. f x ≡ None) xs → filter_map f (xs ++ ys) ≡ filter_map f ys
skip f [] ys none = refl
skip f (x ∷ xs) ys none = ap (λ o. cons_option o (filter_map f (xs ++ ys))) none.0 ∙ skip f xs ys none.1

skip_all : {A : Type 0} (f : Item → Option A) (xs : List Item) → AllByRecursion (λ x. f x ≡ None) xs → filter_map f xs ≡ []
skip_all f [] none = refl
skip_all f (x ∷ xs) none = ap (λ o. cons_option o (filter_map f xs)) none.0 ∙ skip_all f xs none.1

take_all : {A B : Type 0} (f : Item → Option B) (g : A → Item) (h : A → B) → ((a : A) → f (g a) ≡ Some (h a)) → (values : List A) (ys : List Item) → filter_map f (map g values ++ ys) ≡ map h values ++ filter_map f ys
take_all f g h e [] ys = refl
take_all f g h e (a ∷ values) ys = ap (λ o. cons_option o (filter_map f (map g values ++ ys))) (e a) ∙ ap (λ l. h a ∷ l) (take_all f g h e values ys)

take_charges : (charges : List Charge) (ys : List Item) → filter_map charge_in (map charge_item charges ++ ys) ≡ charges ++ filter_map charge_in ys
take_charges [] ys = refl
take_charges (charge ∷ charges) ys = ap (λ l. charge ∷ l) (take_charges charges ys)

take_totals : (totals : List TotalPrice) (ys : List Item) → filter_map total_in (map total_item totals ++ ys) ≡ totals ++ filter_map total_in ys
take_totals [] ys = refl
take_totals (total ∷ totals) ys = ap (λ l. total ∷ l) (take_totals totals ys)

take_multipliers : (number : ℕ) (amounts : List ℕ) (ys : List Item) → filter_map multiplier_in (multiplier_items number amounts ++ ys) ≡ amounts ++ filter_map multiplier_in ys
take_multipliers number [] ys = refl
take_multipliers number (amount ∷ amounts) ys = ap (λ l. amount ∷ l) (take_multipliers (number + 1) amounts ys)

module _ (pool : List (List ℕ)) (c : Certificate) where
  abbrev ending : List Item
  ending = item.Bound c.bound ∷ item.End ∷ []

  -- the blocks
  abbrev listed : List Item
  listed = map listed_item pool

  abbrev nodes : List Item
  nodes = node_items pool 0 c.families

  abbrev charges : List Item
  charges = map charge_item c.charges

  abbrev multipliers : List Item
  multipliers = multiplier_items 0 c.multipliers

  abbrev totals : List Item
  totals = map total_item c.totals

  pub charges_told : filter_map charge_in (items_of pool c) ≡ c.charges
  charges_told =
      skip charge_in listed (nodes ++ price_items c) (all_map (λ x. charge_in x ≡ None) listed_item (λ a. refl) pool)
      ∙ skip charge_in nodes (price_items c) (all_nodes (λ x. charge_in x ≡ None) (λ n p. refl) pool 0 c.families)
      ∙ take_charges c.charges (multipliers ++ (totals ++ ending))
      ∙ ap (λ l. c.charges ++ l) (skip charge_in multipliers (totals ++ ending) (all_multipliers (λ x. charge_in x ≡ None) (λ n a. refl) 0 c.multipliers)
      ∙ skip charge_in totals ending (all_map (λ x. charge_in x ≡ None) total_item (λ a. refl) c.totals))
      ∙ append-nil c.charges

  pub multipliers_told : filter_map multiplier_in (items_of pool c) ≡ c.multipliers
  multipliers_told =
      skip multiplier_in listed (nodes ++ price_items c) (all_map (λ x. multiplier_in x ≡ None) listed_item (λ a. refl) pool)
      ∙ skip multiplier_in nodes (price_items c) (all_nodes (λ x. multiplier_in x ≡ None) (λ n p. refl) pool 0 c.families)
      ∙ skip multiplier_in charges (multipliers ++ (totals ++ ending)) (all_map (λ x. multiplier_in x ≡ None) charge_item (λ a. refl) c.charges)
      ∙ take_multipliers 0 c.multipliers (totals ++ ending)
      ∙ ap (λ l. c.multipliers ++ l) (skip multiplier_in totals ending (all_map (λ x. multiplier_in x ≡ None) total_item (λ a. refl) c.totals))
      ∙ append-nil c.multipliers

  pub totals_told : filter_map total_in (items_of pool c) ≡ c.totals
  totals_told =
      skip total_in listed (nodes ++ price_items c) (all_map (λ x. total_in x ≡ None) listed_item (λ a. refl) pool)
      ∙ skip total_in nodes (price_items c) (all_nodes (λ x. total_in x ≡ None) (λ n p. refl) pool 0 c.families)
      ∙ skip total_in charges (multipliers ++ (totals ++ ending)) (all_map (λ x. total_in x ≡ None) charge_item (λ a. refl) c.charges)
      ∙ skip total_in multipliers (totals ++ ending) (all_multipliers (λ x. total_in x ≡ None) (λ n a. refl) 0 c.multipliers)
      ∙ take_totals c.totals ending ∙ append-nil c.totals

-- ---- the bound
abbrev TellsNoBound : Item → Type 0
TellsNoBound x = (rest : List Item) → bound_in (x ∷ rest) ≡ bound_in rest

bound_skip : (xs ys : List Item) → AllByRecursion TellsNoBound xs → bound_in (xs ++ ys) ≡ bound_in ys
bound_skip [] ys none = refl
bound_skip (x ∷ xs) ys none = none.0 (xs ++ ys) ∙ bound_skip xs ys none.1

pub bound_told : (pool : List (List ℕ)) (c : Certificate) → bound_in (items_of pool c) ≡ c.bound
bound_told pool c =
    bound_skip (map listed_item pool) (node_items pool 0 c.families ++ price_items c) (all_map TellsNoBound listed_item (λ a rest. refl) pool)
    ∙ bound_skip (node_items pool 0 c.families) (price_items c) (all_nodes TellsNoBound (λ n p rest. refl) pool 0 c.families)
    ∙ bound_skip (map charge_item c.charges) (multiplier_items 0 c.multipliers ++ (map total_item c.totals ++ item.Bound c.bound ∷ item.End ∷ [])) (all_map TellsNoBound charge_item (λ a rest. refl) c.charges)
    ∙ bound_skip (multiplier_items 0 c.multipliers) (map total_item c.totals ++ item.Bound c.bound ∷ item.End ∷ []) (all_multipliers TellsNoBound (λ n a rest. refl) 0 c.multipliers)
    ∙ bound_skip (map total_item c.totals) (item.Bound c.bound ∷ item.End ∷ []) (all_map TellsNoBound total_item (λ a rest. refl) c.totals)

-- ---- the vectors
abbrev pub as_vector : List ℕ → Vector
as_vector slots = record { slots = slots }

abbrev pub AreWide : List (List ℕ) → Type 0
AreWide pool = AllByRecursion (λ slots. length slots ≡ 35) pool

pub take_listed : (pool : List (List ℕ)) (ys : List Item) → AreWide pool → filter_map listed_in (map listed_item pool ++ ys) ≡ map as_vector pool ++ filter_map listed_in ys
take_listed [] ys wide = refl
take_listed (slots ∷ pool) ys wide = ap (λ s. as_vector s ∷ filter_map listed_in (map listed_item pool ++ ys)) (slots_again slots wide.0) ∙ ap (λ l. as_vector slots ∷ l) (take_listed pool ys wide.1)

pub listed_told : (pool : List (List ℕ)) (c : Certificate) → AreWide pool → filter_map listed_in (items_of pool c) ≡ map as_vector pool
listed_told pool c wide =
    take_listed pool (node_items pool 0 c.families ++ price_items c) wide
    ∙ ap (λ l. map as_vector pool ++ l) (skip listed_in (node_items pool 0 c.families) (price_items c) (all_nodes (λ x. listed_in x ≡ None) (λ n p. refl) pool 0 c.families)
    ∙ skip_all listed_in (price_items c) (all_append (λ x. listed_in x ≡ None) (map charge_item c.charges) (multiplier_items 0 c.multipliers ++ (map total_item c.totals ++ item.Bound c.bound ∷ item.End ∷ []))
    (all_map (λ x. listed_in x ≡ None) charge_item (λ a. refl) c.charges)
    (all_append (λ x. listed_in x ≡ None) (multiplier_items 0 c.multipliers) (map total_item c.totals ++ item.Bound c.bound ∷ item.End ∷ []) (all_multipliers (λ x. listed_in x ≡ None) (λ n a. refl) 0 c.multipliers)
    (all_append (λ x. listed_in x ≡ None) (map total_item c.totals) (item.Bound c.bound ∷ item.End ∷ []) (all_map (λ x. listed_in x ≡ None) total_item (λ a. refl) c.totals) (refl, (refl, tt))))))
    ∙ append-nil (map as_vector pool)

pub get_map : (pool : List (List ℕ)) (i : ℕ) (slots : List ℕ) (d : Vector) → slice_get pool i ≡ Some slots → slice_index_or (map as_vector pool) i d ≡ as_vector slots
get_map [] i slots d e = absurd (cc)
get_map (x ∷ pool) zero slots d e = ap as_vector (some_is e)
  where
    some_is : {A : Type 0} {a b : A} → Some a ≡ Some b → a ≡ b
    some_is {A = A} {a = a} e = ap (λ (o : Option A). elim o as (λ _. A) [ None ↦ a | (Some x) ↦ x ]) e
get_map (x ∷ pool) (suc i) slots d e = get_map pool i slots d e

pub placed_again : (pool : List (List ℕ)) (family : List CertVector) → AreSorted pool → AreListed pool family → map (placed (map as_vector pool)) (map (place_of pool) family) ≡ family
placed_again pool [] s listed = refl
placed_again pool (v ∷ family) s listed =
    let here : placed (map as_vector pool) (place_of pool v) ≡ v = ap (λ w. record { potential = v.potential; slots = w }) (get_map pool (place_in pool v.slots.slots) v.slots.slots (record { slots = replicate 35 0 }) (place_get pool v.slots.slots s listed.0)) in
    ap (λ w. w ∷ map (placed (map as_vector pool)) (map (place_of pool) family)) here ∙ ap (λ l. v ∷ l) (placed_again pool family s listed.1)

abbrev TellsNoNode : Item → Type 0
TellsNoNode x = (pool : List Vector) (behind : List Item) → family_in pool x behind ≡ None

families_skip : (pool : List Vector) (xs ys : List Item) → AllByRecursion TellsNoNode xs → families_in pool (xs ++ ys) ≡ families_in pool ys
families_skip pool [] ys none = refl
families_skip pool (x ∷ xs) ys none = ap (λ o. cons_option o (families_in pool (xs ++ ys))) (none.0 pool (xs ++ ys)) ∙ families_skip pool xs ys none.1

take_nodes : (pool : List (List ℕ)) (number : ℕ) (families : List (List CertVector)) (ys : List Item) → AreSorted pool → AllByRecursion (AreListed pool) families
    → families_in (map as_vector pool) (node_items pool number families ++ ys) ≡ families ++ families_in (map as_vector pool) ys
take_nodes pool number [] ys s listed = refl
take_nodes pool number (family ∷ families) ys s listed =
    ap (λ l. l ∷ families_in (map as_vector pool) (node_items pool (number + 1) families ++ ys)) (placed_again pool family s listed.0)
    ∙ ap (λ l. family ∷ l) (take_nodes pool (number + 1) families ys s listed.1)

pub families_told : (pool : List (List ℕ)) (c : Certificate) → AreSorted pool → AllByRecursion (AreListed pool) c.families → families_in (map as_vector pool) (items_of pool c) ≡ c.families
families_told pool c s listed =
    families_skip (map as_vector pool) (map listed_item pool) (node_items pool 0 c.families ++ price_items c) (all_map TellsNoNode listed_item (λ a p b. refl) pool)
    ∙ take_nodes pool 0 c.families (price_items c) s listed
    ∙ ap (λ l. c.families ++ l)
    (families_skip (map as_vector pool) (map charge_item c.charges) (multiplier_items 0 c.multipliers ++ (map total_item c.totals ++ item.Bound c.bound ∷ item.End ∷ [])) (all_map TellsNoNode charge_item (λ a p b. refl) c.charges)
    ∙ families_skip (map as_vector pool) (multiplier_items 0 c.multipliers) (map total_item c.totals ++ item.Bound c.bound ∷ item.End ∷ []) (all_multipliers TellsNoNode (λ n a p b. refl) 0 c.multipliers)
    ∙ families_skip (map as_vector pool) (map total_item c.totals) (item.Bound c.bound ∷ item.End ∷ []) (all_map TellsNoNode total_item (λ a p b. refl) c.totals))
    ∙ append-nil c.families

-- the lines of a certificate tell it
pub told_again : (pool : List (List ℕ)) (c : Certificate) → AreSorted pool → AreWide pool → AllByRecursion (AreListed pool) c.families → c ≡ certificate_of (items_of pool c)
told_again pool c s wide listed =
    let f : families_in (filter_map listed_in (items_of pool c)) (items_of pool c) ≡ c.families = ap (λ (p : List Vector). families_in p (items_of pool c)) (listed_told pool c wide) ∙ families_told pool c s listed in
    sym (five (λ families charges multipliers totals bound. record { families = families; charges = charges; multipliers = multipliers; totals = totals; bound = bound })
    f (charges_told pool c) (multipliers_told pool c) (totals_told pool c) (bound_told pool c))
  where
    five : {A B C D E R : Type 0} (g : A → B → C → D → E → R) {a a2 : A} {b b2 : B} {k k2 : C} {d d2 : D} {e e2 : E} → a ≡ a2 → b ≡ b2 → k ≡ k2 → d ≡ d2 → e ≡ e2 → g a b k d e ≡ g a2 b2 k2 d2 e2
    five g p q r s t = cc
