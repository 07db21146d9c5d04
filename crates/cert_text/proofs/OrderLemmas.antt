-- Items that stand in order behind one another.
use Rattle.std.proofs.Common.{◌≡◌, ℕ, ◌+◌, ◌-◌, ◌<◌, ◌≤◌, ◌^◌, Bool, true, false, cond, not, ◌==◌, List, [], ◌∷◌, ◌++◌, length, map, All, Some, None, refl, sym, ◌∙◌, ap, subst, arith, append_assoc, append-nil}
use Rattle.std.specs.Prelude.{Option, slice_get, count_by}
use Rattle.std.specs.List.{AllByRecursion}
use Rattle.std.proofs.lemmas.Bool.{and_parts}
use Rattle.std.proofs.lemmas.Bool.Decides.{nat_tests}
use Rattle.std.proofs.lemmas.List.{length-append}
use Rattle.std.proofs.lemmas.List.Elements.{All-head, All-tail}
use Rattle.std.proofs.lemmas.List.Sums.{sum_by_push}
use Rattle.flow_ctx.specs.declared.scope.Scope.{Scope}
use Rattle.cert_lines.specs.Table.{part_of}
use Rattle.cert_lines.specs.Grammar.{Line}
use Rattle.cert_items.specs.declared.item.Item.{Item}
use Rattle.cert_items.specs.declared.item.Item.TheVariants as item
use Rattle.cert_items.specs.Said.{kind_of, most, Fits}
use Rattle.cert_items.specs.Order.{is_multiplier, is_above_charge, is_above_total, last_of, is_in_order}
use Rattle.cert_items.specs.Faults.{AreItems}
use Rattle.cert_items.specs.Faults.AreItems.{more}
use Rattle.cert_text.specs.declared.certificate.Charge.{Charge}
use Rattle.cert_text.specs.declared.certificate.TotalPrice.{TotalPrice}
use Rattle.cert_text.specs.Written.{charge_item, multiplier_items, total_item}
use Rattle.cert_text.specs.Writable.{comes_behind, ascend_behind, is_charge_before, is_total_before, IsFitCharge, IsFitTotal}
use Rattle.cert_text.proofs.LineLemmas.{line_of}

-- behind these items the others stand in order, among the lines of a text
pub data AreOrdered (lines : List Line) : List Item → List Item → Type 0 where
  done : {before : List Item} → AreOrdered lines before []
  next : {before behind : List Item} (x : Item) → Fits x → is_in_order lines before x ≡ true → AreOrdered lines (before ++ x ∷ []) behind → AreOrdered lines before (x ∷ behind)

pub ordered_append : (lines : List Line) (before xs ys : List Item) → AreOrdered lines before xs → AreOrdered lines (before ++ xs) ys → AreOrdered lines before (xs ++ ys)
ordered_append lines before [] ys done rest = subst (λ (l : List Item). AreOrdered lines l ys) (append-nil before) rest
ordered_append lines before (x ∷ xs) ys (next y fits so behind) rest =
    next y fits so (ordered_append lines (before ++ x ∷ []) xs ys behind (subst (λ (l : List Item). AreOrdered lines l ys) (sym (append_assoc before (x ∷ []) xs)) rest))

get_at : (before : List Item) (x : Item) (behind : List Item) → slice_get (map line_of (before ++ x ∷ behind)) (length before) ≡ Some (line_of x)
get_at [] x behind = refl
get_at (y ∷ before) x behind = get_at before x behind

pub items_of_ordered : (all before behind : List Item) → all ≡ before ++ behind → AreItems (map line_of all) before → AreOrdered (map line_of all) before behind → AreItems (map line_of all) (before ++ behind)
items_of_ordered all before [] e so done = subst (λ (l : List Item). AreItems (map line_of all) l) (sym (append-nil before)) so
items_of_ordered all before (x ∷ behind) e so (next y fits order rest) =
    let here : slice_get (map line_of all) (length before) ≡ Some (line_of x) = ap (λ (l : List Item). slice_get (map line_of l) (length before)) e ∙ get_at before x behind in
    let grown = more (line_of x) x so here (record { says = (refl, refl); fits = fits }) order in
    let e2 : all ≡ (before ++ x ∷ []) ++ behind = e ∙ sym (append_assoc before (x ∷ []) behind) in
    subst (λ (l : List Item). AreItems (map line_of all) l) (append_assoc before (x ∷ []) behind) (items_of_ordered all (before ++ x ∷ []) behind e2 grown rest)

-- ---- the last item
pub last_push : (before : List Item) (x : Item) → last_of (before ++ x ∷ []) ≡ Some x
last_push before x =
    let n : length (before ++ x ∷ []) ≡ length before + 1 = length-append before (x ∷ []) in
    let m : length (before ++ x ∷ []) - 1 ≡ length before = omega (arith, n) in
    ap (slice_get (before ++ x ∷ [])) m ∙ here before
  where
    here : (xs : List Item) → slice_get (xs ++ x ∷ []) (length xs) ≡ Some x
    here [] = refl
    here (y ∷ xs) = here xs

-- no item of a later part is the last
abbrev pub IsLow : ℕ → Option Item → Type 0
IsLow part None = Unit {0}
IsLow part (Some x) = part_of (Some (kind_of x)) ≤ part

pub low_all : (before behind : List Item) (from part : ℕ) → IsLow from (last_of before) → from ≤ part → AllByRecursion (λ x. part_of (Some (kind_of x)) ≡ part) behind → IsLow part (last_of (before ++ behind))
low_all before [] from part low order are = subst (λ (l : List Item). IsLow part (last_of l)) (sym (append-nil before)) (by (last_of before) low)
  where
    by : (o : Option Item) → IsLow from o → IsLow part o
    by None h = tt
    by (Some x) h = omega (arith, h, order)
low_all before (x ∷ behind) from part low order are =
    subst (λ (l : List Item). IsLow part (last_of l)) (append_assoc before (x ∷ []) behind)
    (low_all (before ++ x ∷ []) behind part part (subst (IsLow part) (sym (last_push before x)) (let e = are.0 in omega (arith, e))) (omega arith) are.1)

charge_low : (o : Option Item) (line : ℕ) (scope : Scope) → IsLow 4 o → is_above_charge o line scope ≡ true
charge_low None line scope low = refl
charge_low (Some (item.Charge l s a)) line scope low = absurd (omega (arith, low))
charge_low (Some x) line scope low = refl

total_low : (o : Option Item) (address : ℕ) → IsLow 6 o → is_above_total o address ≡ true
total_low None address low = refl
total_low (Some (item.Total l a)) address low = absurd (omega (arith, low))
total_low (Some x) address low = refl

-- ---- counting
pub count_push : (p : Item → Bool) (items : List Item) (x : Item) → count_by p (items ++ x ∷ []) ≡ count_by p items + cond {A = ℕ} (p x) 1 0
count_push p items x = sum_by_push (λ y. cond (p y) 1 0) items x

pub count_none : (p : Item → Bool) (before behind : List Item) → AllByRecursion (λ x. p x ≡ false) behind → count_by p (before ++ behind) ≡ count_by p before
count_none p before [] are = ap (count_by p) (append-nil before)
count_none p before (x ∷ behind) are =
    ap (count_by p) (sym (append_assoc before (x ∷ []) behind)) ∙ count_none p (before ++ x ∷ []) behind are.1 ∙ count_push p before x ∙ ap (λ b. count_by p before + cond {A = ℕ} b 1 0) are.0 ∙ zero_more (count_by p before)
  where
    zero_more : (n : ℕ) → n + 0 ≡ n
    zero_more n = omega arith

-- ---- charges
charge_next : (before : List Item) (last : Option Charge) (charge : Charge) → ((line : ℕ) (scope : Scope) → is_above_charge (last_of before) line scope ≡ comes_behind is_charge_before last (record { line = line; scope = scope; amount = charge.amount }))
    → comes_behind is_charge_before last charge ≡ true → (lines : List Line) → is_in_order lines before (charge_item charge) ≡ true
charge_next before last charge so e lines = so charge.line charge.scope ∙ e

pub charges_ordered : (lines : List Line) (before : List Item) (last : Option Charge) (charges : List Charge)
    → ((line : ℕ) (scope : Scope) (amount : ℕ) → is_above_charge (last_of before) line scope ≡ comes_behind is_charge_before last (record { line = line; scope = scope; amount = amount }))
    → All IsFitCharge charges → ascend_behind is_charge_before last charges ≡ true → AreOrdered lines before (map charge_item charges)
charges_ordered lines before last [] so fit order = done
charges_ordered lines before last (charge ∷ charges) so fit order =
    let parts = and_parts (comes_behind is_charge_before last charge) (ascend_behind is_charge_before (Some charge) charges) order in
    let here = All-head IsFitCharge charge charges fit in
    next (charge_item charge) (here.line, here.scope, here.amount) (so charge.line charge.scope charge.amount ∙ parts.0)
    (charges_ordered lines (before ++ charge_item charge ∷ []) (Some charge) charges
    (λ line scope amount. ap (λ (o : Option Item). is_above_charge o line scope) (last_push before (charge_item charge)))
    (All-tail IsFitCharge charge charges fit) parts.1)

pub charges_first : (lines : List Line) (before : List Item) (charges : List Charge) → IsLow 4 (last_of before) → All IsFitCharge charges → ascend_behind is_charge_before None charges ≡ true → AreOrdered lines before (map charge_item charges)
charges_first lines before charges low fit order = charges_ordered lines before None charges (λ line scope amount. charge_low (last_of before) line scope low) fit order

-- ---- totals
not_zero : (n : ℕ) → 0 < n → not (n == 0) ≡ true
not_zero n some = grind (arith, nat_tests)

pub totals_ordered : (lines : List Line) (before : List Item) (last : Option TotalPrice) (totals : List TotalPrice)
    → ((address amount : ℕ) → is_above_total (last_of before) address ≡ comes_behind is_total_before last (record { address = address; amount = amount }))
    → All IsFitTotal totals → ascend_behind is_total_before last totals ≡ true → AreOrdered lines before (map total_item totals)
totals_ordered lines before last [] so fit order = done
totals_ordered lines before last (total ∷ totals) so fit order =
    let parts = and_parts (comes_behind is_total_before last total) (ascend_behind is_total_before (Some total) totals) order in
    let here = All-head IsFitTotal total totals fit in
    let first : is_above_total (last_of before) total.address ≡ true = so total.address total.amount ∙ parts.0 in
    next (total_item total) (here.address, here.amount) (rw first (not_zero total.amount here.some))
    (totals_ordered lines (before ++ total_item total ∷ []) (Some total) totals
    (λ address amount. ap (λ (o : Option Item). is_above_total o address) (last_push before (total_item total)))
    (All-tail IsFitTotal total totals fit) parts.1)

pub totals_first : (lines : List Line) (before : List Item) (totals : List TotalPrice) → IsLow 6 (last_of before) → All IsFitTotal totals → ascend_behind is_total_before None totals ≡ true → AreOrdered lines before (map total_item totals)
totals_first lines before totals low fit order = totals_ordered lines before None totals (λ address amount. total_low (last_of before) address low) fit order

-- ---- multipliers
equal_self : (n : ℕ) → (n == n) ≡ true
equal_self n = grind (arith, nat_tests)

equal_by : (m n : ℕ) → n ≡ m → (m == n) ≡ true
equal_by m n e = grind (arith, nat_tests)

pub multipliers_ordered : (lines : List Line) (before : List Item) (number : ℕ) (amounts : List ℕ) → count_by is_multiplier before ≡ number → number + length amounts ≤ 2 ^ 32 → All (λ amount. amount ≤ most) amounts
    → AreOrdered lines before (multiplier_items number amounts)
multipliers_ordered lines before number [] counted size fit = done
multipliers_ordered lines before number (amount ∷ amounts) counted size fit =
    let n : length (amount ∷ amounts) ≡ length amounts + 1 = omega arith in
    next (item.Multiplier number amount) (omega (arith, size, n), All-head (λ amount. amount ≤ most) amount amounts fit) (equal_by number (count_by is_multiplier before) counted)
    (multipliers_ordered lines (before ++ item.Multiplier number amount ∷ []) (number + 1) amounts (count_push is_multiplier before (item.Multiplier number amount) ∙ ap (λ k. k + 1) counted) (omega (arith, size, n))
    (All-tail (λ amount. amount ≤ most) amount amounts fit))
