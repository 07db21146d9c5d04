-- The charges, multipliers and totals of a text are in their ranges and in order.
use Rattle.std.proofs.Common.{◌≡◌, ℕ, ◌+◌, ◌<◌, ◌≤◌, true, not, ◌==◌, List, [], ◌∷◌, ◌++◌, length, All, Some, None, refl, sym, ◌∙◌, ap, arith}
use Rattle.std.specs.Prelude.{Option, filter_map}
use Rattle.std.specs.List.{cons_option}
use Rattle.std.proofs.lemmas.Bool.{and_parts}
use Rattle.std.proofs.lemmas.Bool.Decides.{nat_tests}
use Rattle.std.proofs.lemmas.List.Elements.{All-cons, All-nil}
use Rattle.cert_lines.specs.Table.{part_of}
use Rattle.cert_lines.specs.Grammar.{Line}
use Rattle.cert_items.specs.declared.item.Item.{Item}
use Rattle.cert_items.specs.declared.item.Item.TheVariants as item
use Rattle.cert_items.specs.Said.{kind_of, most}
use Rattle.cert_items.specs.Order.{is_above_charge, is_above_total, last_of}
use Rattle.cert_text.specs.declared.certificate.Charge.{Charge}
use Rattle.cert_text.specs.declared.certificate.TotalPrice.{TotalPrice}
use Rattle.cert_text.specs.Told.{charge_in, multiplier_in, total_in, bound_in}
use Rattle.cert_text.specs.Written.{charge_item, total_item}
use Rattle.cert_text.specs.Writable.{ascend_behind, is_charge_before, is_total_before, IsFitCharge, IsFitTotal}
use Rattle.cert_text.proofs.OrderLemmas.{AreOrdered, last_push}
use Rattle.cert_text.proofs.OrderLemmas.AreOrdered.{done, next}
use Rattle.cert_text.proofs.ChainLemmas.{Rises, rises_by}

-- an item that is none of these gives nothing
pub filter_none : {A : Type 0} (f : Item → Option A) (x : Item) (items : List Item) → f x ≡ None → filter_map f (x ∷ items) ≡ filter_map f items
filter_none f x items e = ap (λ o. cons_option o (filter_map f items)) e

pub option_longer : {A : Type 0} (o : Option A) (values : List A) (n : ℕ) → length values ≤ n → length (cons_option o values) ≤ n + 1
option_longer None values n h = omega (arith, h)
option_longer (Some a) values n h = omega (arith, h)

pub filter_length : {A : Type 0} (f : Item → Option A) (items : List Item) → length (filter_map f items) ≤ length items
filter_length f [] = omega arith
filter_length f (x ∷ items) = let n = option_longer (f x) (filter_map f items) (length items) (filter_length f items) in omega (arith, n)

-- ---- ranges
pub charges_fit : (lines : List Line) (before items : List Item) → AreOrdered lines before items → All IsFitCharge (filter_map charge_in items)
charges_fit lines before [] done = All-nil IsFitCharge
charges_fit lines before (item.Charge line scope amount ∷ items) (next x fits so rest) =
    All-cons IsFitCharge (record { line = line; scope = scope; amount = amount }) (filter_map charge_in items) (record { line = fits.0; scope = fits.1; amount = fits.2 }) (charges_fit lines (before ++ item.Charge line scope amount ∷ []) items rest)
charges_fit lines before (x ∷ items) (next y fits so rest) = charges_fit lines (before ++ x ∷ []) items rest

pub multipliers_fit : (lines : List Line) (before items : List Item) → AreOrdered lines before items → All (λ amount. amount ≤ most) (filter_map multiplier_in items)
multipliers_fit lines before [] done = All-nil (λ amount. amount ≤ most)
multipliers_fit lines before (item.Multiplier number amount ∷ items) (next x fits so rest) =
    All-cons (λ amount. amount ≤ most) amount (filter_map multiplier_in items) fits.1 (multipliers_fit lines (before ++ item.Multiplier number amount ∷ []) items rest)
multipliers_fit lines before (x ∷ items) (next y fits so rest) = multipliers_fit lines (before ++ x ∷ []) items rest

some_positive : (n : ℕ) → not (n == 0) ≡ true → 0 < n
some_positive n e = grind (arith, nat_tests)

pub totals_fit : (lines : List Line) (before items : List Item) → AreOrdered lines before items → All IsFitTotal (filter_map total_in items)
totals_fit lines before [] done = All-nil IsFitTotal
totals_fit lines before (item.Total address amount ∷ items) (next x fits so rest) =
    let parts = and_parts (is_above_total (last_of before) address) (not (amount == 0)) so in
    All-cons IsFitTotal (record { address = address; amount = amount }) (filter_map total_in items) (record { address = fits.0; some = some_positive amount parts.1; amount = fits.1 }) (totals_fit lines (before ++ item.Total address amount ∷ []) items rest)
totals_fit lines before (x ∷ items) (next y fits so rest) = totals_fit lines (before ++ x ∷ []) items rest

pub bound_fit : (lines : List Line) (before items : List Item) → AreOrdered lines before items → bound_in items ≤ most
bound_fit lines before [] done = omega arith
bound_fit lines before (item.Bound amount ∷ items) (next x fits so rest) = fits
bound_fit lines before (x ∷ items) (next y fits so rest) = bound_fit lines (before ++ x ∷ []) items rest

-- ---- charges in order
-- no charge stands behind a later part
no_charge : (items : List Item) → Rises 6 items → filter_map charge_in items ≡ []
no_charge [] r = refl
no_charge (item.Charge line scope amount ∷ items) r = absurd (let n = r.0 in omega (arith, n))
no_charge (x ∷ items) r = no_charge items (rises_by 6 (part_of (Some (kind_of x))) items r.0 r.1)

-- behind a charge
charges_behind : (lines : List Line) (before items : List Item) (charge : Charge) → last_of before ≡ Some (charge_item charge) → Rises 5 items → AreOrdered lines before items → ascend_behind is_charge_before (Some charge) (filter_map charge_in items) ≡ true
charges_behind lines before [] charge is r done = refl
charges_behind lines before (item.Charge line scope amount ∷ items) charge is r (next x fits so rest) =
    let this : Charge = record { line = line; scope = scope; amount = amount } in
    let here : is_charge_before charge this ≡ true = sym (ap (λ (o : Option Item). is_above_charge o line scope) is) ∙ so in
    rw here (charges_behind lines (before ++ item.Charge line scope amount ∷ []) items this (last_push before (item.Charge line scope amount)) r.1 rest)
charges_behind lines before (item.Multiplier number amount ∷ items) charge is r o = ap (ascend_behind is_charge_before (Some charge)) (no_charge items r.1)
charges_behind lines before (item.Total address amount ∷ items) charge is r o = ap (ascend_behind is_charge_before (Some charge)) (no_charge items (rises_by 6 7 items (omega arith) r.1))
charges_behind lines before (item.Bound amount ∷ items) charge is r o = ap (ascend_behind is_charge_before (Some charge)) (no_charge items (rises_by 6 8 items (omega arith) r.1))
charges_behind lines before (item.End ∷ items) charge is r o = ap (ascend_behind is_charge_before (Some charge)) (no_charge items (rises_by 6 9 items (omega arith) r.1))
charges_behind lines before (item.Head v ∷ items) charge is r o = absurd (let n = r.0 in omega (arith, n))
charges_behind lines before (item.Count n ∷ items) charge is r o = absurd (let n = r.0 in omega (arith, n))
charges_behind lines before (item.Listed s ∷ items) charge is r o = absurd (let n = r.0 in omega (arith, n))
charges_behind lines before (item.Node n c ∷ items) charge is r o = absurd (let n = r.0 in omega (arith, n))
charges_behind lines before (item.Vector p s ∷ items) charge is r o = absurd (let n = r.0 in omega (arith, n))
charges_behind lines before (item.Places n p ∷ items) charge is r o = absurd (let n = r.0 in omega (arith, n))

pub charges_ascend : (lines : List Line) (before items : List Item) → Rises 0 items → AreOrdered lines before items → ascend_behind is_charge_before None (filter_map charge_in items) ≡ true
charges_ascend lines before [] r done = refl
charges_ascend lines before (item.Charge line scope amount ∷ items) r (next x fits so rest) =
    charges_behind lines (before ++ item.Charge line scope amount ∷ []) items (record { line = line; scope = scope; amount = amount }) (last_push before (item.Charge line scope amount)) r.1 rest
charges_ascend lines before (x ∷ items) r (next y fits so rest) = charges_ascend lines (before ++ x ∷ []) items (rises_by 0 (part_of (Some (kind_of x))) items (omega arith) r.1) rest

-- ---- totals in order
no_total : (items : List Item) → Rises 8 items → filter_map total_in items ≡ []
no_total [] r = refl
no_total (item.Total address amount ∷ items) r = absurd (let n = r.0 in omega (arith, n))
no_total (x ∷ items) r = no_total items (rises_by 8 (part_of (Some (kind_of x))) items r.0 r.1)

totals_behind : (lines : List Line) (before items : List Item) (total : TotalPrice) → last_of before ≡ Some (total_item total) → Rises 7 items → AreOrdered lines before items → ascend_behind is_total_before (Some total) (filter_map total_in items) ≡ true
totals_behind lines before [] total is r done = refl
totals_behind lines before (item.Total address amount ∷ items) total is r (next x fits so rest) =
    let this : TotalPrice = record { address = address; amount = amount } in
    let parts = and_parts (is_above_total (last_of before) address) (not (amount == 0)) so in
    let here : is_total_before total this ≡ true = sym (ap (λ (o : Option Item). is_above_total o address) is) ∙ parts.0 in
    rw here (totals_behind lines (before ++ item.Total address amount ∷ []) items this (last_push before (item.Total address amount)) r.1 rest)
totals_behind lines before (item.Bound amount ∷ items) total is r o = ap (ascend_behind is_total_before (Some total)) (no_total items r.1)
totals_behind lines before (item.End ∷ items) total is r o = ap (ascend_behind is_total_before (Some total)) (no_total items (rises_by 8 9 items (omega arith) r.1))
totals_behind lines before (item.Head v ∷ items) total is r o = absurd (let n = r.0 in omega (arith, n))
totals_behind lines before (item.Count n ∷ items) total is r o = absurd (let n = r.0 in omega (arith, n))
totals_behind lines before (item.Listed s ∷ items) total is r o = absurd (let n = r.0 in omega (arith, n))
totals_behind lines before (item.Node n c ∷ items) total is r o = absurd (let n = r.0 in omega (arith, n))
totals_behind lines before (item.Vector p s ∷ items) total is r o = absurd (let n = r.0 in omega (arith, n))
totals_behind lines before (item.Places n p ∷ items) total is r o = absurd (let n = r.0 in omega (arith, n))
totals_behind lines before (item.Charge l s a ∷ items) total is r o = absurd (let n = r.0 in omega (arith, n))
totals_behind lines before (item.Multiplier n a ∷ items) total is r o = absurd (let n = r.0 in omega (arith, n))

pub totals_ascend : (lines : List Line) (before items : List Item) → Rises 0 items → AreOrdered lines before items → ascend_behind is_total_before None (filter_map total_in items) ≡ true
totals_ascend lines before [] r done = refl
totals_ascend lines before (item.Total address amount ∷ items) r (next x fits so rest) =
    totals_behind lines (before ++ item.Total address amount ∷ []) items (record { address = address; amount = amount }) (last_push before (item.Total address amount)) r.1 rest
totals_ascend lines before (x ∷ items) r (next y fits so rest) = totals_ascend lines (before ++ x ∷ []) items (rises_by 0 (part_of (Some (kind_of x))) items (omega arith) r.1) rest
