-- What the misses in a block are charged: by the list of a certificate, and by what each event is charged.
use Rattle.std.proofs.Common.{◌≡◌, ℕ, suc, ◌+◌, ◌<◌, ◌≤◌, ◌&&◌, ◌==◌, Bool, true, false, cond, if◌then◌else◌, List, [], ◌∷◌, length, map, get_or, slice_get, slice_index, Option, Some, Result, Ok, Err, IfOk, All, AllPairs, refl, sym, ap, subst, ◌∙◌, inl, inr, arith}
use Rattle.std.specs.List.{sum_by}
use Rattle.std.specs.Option.{option_map_or}
use Rattle.std.proofs.lemmas.Bool.{false≢true, cases_lt, eqb-true}
use Rattle.std.proofs.lemmas.List.{length-map, get_or_past}
use Rattle.std.proofs.Math.ListN.{get_or-map}
use Rattle.std.proofs.lemmas.List.Elements.{All-head, All-tail}
use Rattle.std.proofs.lemmas.List.Sums.{sum_by-cons}
use Rattle.std.proofs.lemmas.Option.{slice_get-get_or, slice_get_within, get_or_from_slice_get}
use Rattle.xdd_table.specs.declared.node.Dd.{Dd}
use Rattle.xdd_table.specs.declared.node.Node.{Node}
use Rattle.xdd_table.specs.Diagram.{Combination, time}
use Rattle.flow_block.specs.declared.block.Block.{Block}
use Rattle.flow_block.specs.declared.block.Slot.{Slot}
use Rattle.flow_block.specs.declared.block.SlotKind.{SlotKind}
use Rattle.flow_block.specs.declared.block.SlotKind.TheVariants.{Fetch, Multiply, Data}
use Rattle.flow_block.specs.Blocks.{most_slots}
use Rattle.flow_graph.specs.declared.program.Function.{Function}
use Rattle.wx_base.specs.declared.machine.Machine.{Machine}
use Rattle.flow_ctx.specs.declared.scope.Scope.{Scope}
use Rattle.flow_ctx.specs.declared.scope.Scope.TheVariants.{Run, Loop}
use Rattle.flow_ctx.specs.declared.unfolded.Unfolded.{Unfolded}
use Rattle.flow_ctx.specs.Nodes.{IsBlockOf}
use Rattle.cache_class.specs.declared.class.Class.{Class}
use Rattle.cache_class.specs.declared.class.Class.TheVariants.{AlwaysHit, AlwaysMiss, FirstMiss, Open}
use Rattle.cache_class.specs.declared.class.Classes.{Classes}
use Rattle.cache_class.specs.Accesses.{slots_of}
use Rattle.cache_class.specs.Groups.{IsGroupBefore, IsScopeBefore}
use Rattle.cert_text.specs.declared.certificate.Charge.{Charge}
use Rattle.cert_text.specs.declared.certificate.Certificate.{Certificate}
use Rattle.cert_rules.specs.Prices.{same_scope, charge_of, slot_charge, missed_from}
use Rattle.cert_rules.specs.Rules.{group_of, greatest_number}
use Rattle.cert_prices.specs.Keys.{AreApart, AreEventCharges, charge_in, event_charge}
use Rattle.cert_judge.specs.Laws.{AreCharges, MissesAreCharged, missed_from as missed_by}
use Rattle.cert_judge.specs.Offers.{IsCharged, charge_of as charge_if_first, charged_from}
use Rattle.cert_check.specs.Judging.{AreChargesOf, HasCharges, IsSite, IsSubject}

-- no scope is before itself
not_before : (s : Scope) → IsScopeBefore s s → ⊥
not_before Run h = h
not_before (Loop n) h = absurd (omega (arith, h))

-- no two charges of groups in their order have one line and one scope
pub groups_apart : (charges : List Charge) → AllPairs IsGroupBefore (map group_of charges) → AreApart charges
groups_apart charges up i j d l within line scope =
    let a = get_or charges i d in
    let b = get_or charges j d in
    let before = up i j (group_of d) l (subst (λ n. j < n) (sym (length-map charges group_of)) within) in
    let first : IsGroupBefore (group_of a) (get_or (map group_of charges) j (group_of d)) =
    subst (λ g. IsGroupBefore g (get_or (map group_of charges) j (group_of d))) (get_or-map group_of charges i d) before in
    let both : IsGroupBefore (group_of a) (group_of b) = subst (λ g. IsGroupBefore (group_of a) g) (get_or-map group_of charges j d) first in
    elim both [
      | inl less ↦ absurd (omega (arith, less, line))
      | inr same ↦ absurd (not_before a.scope (subst (λ s. IsScopeBefore a.scope s) (sym scope) same.1))
    ]

same_scope_is : (s t : Scope) → same_scope s t ≡ true → s ≡ t
same_scope_is Run Run h = refl
same_scope_is Run (Loop m) h = absurd (false≢true h)
same_scope_is (Loop n) Run h = absurd (false≢true h)
same_scope_is (Loop n) (Loop m) h = ap (λ k. Loop k) (eqb-true n m h)

both_true : (x y : Bool) → (x && y) ≡ true → (x ≡ true) × (y ≡ true)
both_true true y h = (refl, h)
both_true false y h = absurd (false≢true h)

not_true : (b : Bool) → (b ≡ true → ⊥) → b ≡ false
not_true true fails = absurd (fails refl)
not_true false fails = refl

-- whether a charge is that of a line and a scope, and what it counts for
abbrev is_for : ℕ → Scope → Charge → Bool
is_for line scope charge = (charge.line == line) && same_scope charge.scope scope

abbrev part : ℕ → Scope → Charge → ℕ
part line scope charge = cond (is_for line scope charge) charge.amount 0

-- where no charge is, nothing is charged
none_for : (charges : List Charge) (line : ℕ) (scope : Scope) → ((k : ℕ) (x : Charge) → slice_get charges k ≡ Some x → is_for line scope x ≡ false)
    → sum_by (part line scope) charges ≡ 0
none_for [] line scope none = refl
none_for (x ∷ xs) line scope none =
    let first : part line scope x ≡ 0 = ap (λ b. cond b x.amount 0) (none 0 x refl) in
    let rest : sum_by (part line scope) xs ≡ 0 = none_for xs line scope (λ k y is. none (suc k) y is) in
    sum_by-cons (part line scope) x xs ∙ omega (arith, first, rest)

-- no charge of a line and a scope is more than the greatest amount
pub charge_small : (charges : List Charge) (line : ℕ) (scope : Scope) (most : ℕ) → AreApart charges → All (λ charge. charge.amount ≤ most) charges
    → charge_of charges line scope ≤ most
charge_small [] line scope most apart small = omega arith
charge_small (x ∷ xs) line scope most apart small =
    split (is_for line scope x) refl (charge_small xs line scope most later (All-tail (λ (c : Charge). c.amount ≤ most) x xs small))
  where
    later : AreApart xs
    later i j d l within = apart (suc i) (suc j) d (omega (arith, l)) (omega (arith, within))

    no_other : is_for line scope x ≡ true → (k : ℕ) (y : Charge) → slice_get xs k ≡ Some y → is_for line scope y ≡ false
    no_other is k y at = not_true (is_for line scope y) (λ too.
        let a = both_true (x.line == line) (same_scope x.scope scope) is in
        let b = both_true (y.line == line) (same_scope y.scope scope) too in
        let y_is : get_or xs k x ≡ y = get_or_from_slice_get xs k y x at in
        apart 0 (suc k) x (omega arith) (omega (arith, slice_get_within xs k y at))
        (eqb-true x.line line a.0 ∙ sym (eqb-true y.line line b.0) ∙ ap (λ (c : Charge). c.line) (sym y_is))
        (same_scope_is x.scope scope a.1 ∙ sym (same_scope_is y.scope scope b.1) ∙ ap (λ (c : Charge). c.scope) (sym y_is)))

    split : (b : Bool) → is_for line scope x ≡ b → charge_of xs line scope ≤ most → charge_of (x ∷ xs) line scope ≤ most
    split true is rest_small =
        let first : part line scope x ≡ x.amount = ap (λ b. cond b x.amount 0) is in
        let rest : sum_by (part line scope) xs ≡ 0 = none_for xs line scope (no_other is) in
        let all : charge_of (x ∷ xs) line scope ≡ part line scope x + sum_by (part line scope) xs = sum_by-cons (part line scope) x xs in
        let le : x.amount ≤ most = All-head (λ (c : Charge). c.amount ≤ most) x xs small in
        omega (arith, first, rest, all, le)
    split false is rest_small =
        let first : part line scope x ≡ 0 = ap (λ b. cond b x.amount 0) is in
        let all : charge_of (x ∷ xs) line scope ≡ part line scope x + charge_of xs line scope = sum_by-cons (part line scope) x xs in
        omega (arith, first, all, rest_small)

-- so is none of an event
event_small : (charges : List Charge) (most : ℕ) → AreApart charges → All (λ charge. charge.amount ≤ most) charges
    → (kind : SlotKind) (class : Class) → slot_charge charges kind class ≤ most
event_small charges most apart small (Fetch line) AlwaysHit = omega arith
event_small charges most apart small (Fetch line) AlwaysMiss = omega arith
event_small charges most apart small (Fetch line) (FirstMiss scope) = charge_small charges line scope most apart small
event_small charges most apart small (Fetch line) Open = omega arith
event_small charges most apart small Multiply class = omega arith
event_small charges most apart small Data class = omega arith

-- what a miss of an event is charged by a table is what it is charged by the list
event_charge_is : (table : List ((ℕ × Option ℕ) × ℕ)) (charges : List Charge) → HasCharges table charges → (kind : SlotKind) (class : Class)
    → event_charge (charge_in table) kind class ≡ slot_charge charges kind class
event_charge_is table charges has (Fetch line) AlwaysHit = refl
event_charge_is table charges has (Fetch line) AlwaysMiss = refl
event_charge_is table charges has (Fetch line) (FirstMiss scope) = has.each line scope
event_charge_is table charges has (Fetch line) Open = refl
event_charge_is table charges has Multiply class = refl
event_charge_is table charges has Data class = refl

-- only first misses are charged
first_alone : (charges : List Charge) (kind : SlotKind) (class : Class) → charge_if_first class (slot_charge charges kind class) ≡ slot_charge charges kind class
first_alone charges (Fetch line) AlwaysHit = refl
first_alone charges (Fetch line) AlwaysMiss = refl
first_alone charges (Fetch line) (FirstMiss scope) = refl
first_alone charges (Fetch line) Open = refl
first_alone charges Multiply AlwaysHit = refl
first_alone charges Multiply AlwaysMiss = refl
first_alone charges Multiply (FirstMiss scope) = refl
first_alone charges Multiply Open = refl
first_alone charges Data AlwaysHit = refl
first_alone charges Data AlwaysMiss = refl
first_alone charges Data (FirstMiss scope) = refl
first_alone charges Data Open = refl

-- the charges of the events that miss are one sum in both ways
missed_alike : (charges : List Charge) (f : Combination) (number : ℕ) (events : List Slot) (classes : List Class)
    → missed_by (λ event class. slot_charge charges event.kind class) f number events classes ≡ missed_from charges f number events classes
missed_alike charges f number [] classes = refl
missed_alike charges f number (event ∷ events) [] = refl
missed_alike charges f number (event ∷ events) (class ∷ classes) =
    ap (λ n. (if f number then slot_charge charges event.kind class else 0) + n) (missed_alike charges f (number + 1) events classes)

-- what each event is charged, by the list of a certificate
module _ (table : List ((ℕ × Option ℕ) × ℕ)) (charges : List Charge) (has : HasCharges table charges) (apart : AreApart charges)
    (small : All (λ charge. charge.amount ≤ greatest_number) charges) (events : List Slot) (classes : List Class) (amounts : List ℕ)
    (are : AreEventCharges (charge_in table) events classes amounts) (alike : length events ≡ length classes) where
  amount_is : (number : ℕ) (event : Slot) (class : Class) → slice_get events number ≡ Some event → slice_get classes number ≡ Some class
      → slice_index amounts number ≡ slot_charge charges event.kind class
  amount_is number event class at there = are.each number event class at there ∙ event_charge_is table charges has event.kind class

  pub amounts_are : AreCharges (λ event class. slot_charge charges event.kind class) events classes amounts
  amounts_are = record {
    long = alike;
    each = λ number event class at there.
        ap (charge_if_first class) (amount_is number event class at there) ∙ first_alone charges event.kind class;
  }

  pub amounts_small : (number : ℕ) → slice_index amounts number ≤ greatest_number
  amounts_small number = elim (cases_lt number (length amounts)) [
    | inl l ↦
        let none : Slot = record { at = 0; kind = Multiply } in
        let at = slice_get-get_or events number none (omega (arith, l, are.long)) in
        let there = slice_get-get_or classes number Open (omega (arith, l, are.long, alike)) in
        let is = amount_is number (get_or events number none) (get_or classes number Open) at there in
        let le = event_small charges greatest_number apart small (get_or events number none).kind (get_or classes number Open) in
        subst (λ n. n ≤ greatest_number) (sym is) le
    | inr g ↦ subst (λ n. n ≤ greatest_number) (sym (get_or_past amounts number 0 g)) (omega arith)
  ]

-- the events of a node are those of its block
slots_are : (u : Unfolded) (node : ℕ) (block : Block) (is : IsBlockOf u node block) → slots_of u.program is.node ≡ block.slots
slots_are u node block is =
    ap (λ (o : Option Function). option_map_or (λ function. option_map_or (λ (b : Block). b.slots) (slice_get function.blocks is.node.block) []) o []) is.function_stands
    ∙ ap (λ (o : Option Block). option_map_or (λ (b : Block). b.slots) o []) is.block_stands

-- what is known of a node and what misses are charged in it
pub charges_of : (u : Unfolded) (m : Machine) (classes : Classes) (c : Certificate) (table : List ((ℕ × Option ℕ) × ℕ)) (node : ℕ) (block : Block)
    (kinds : List Class) (amounts : List ℕ) → IsSubject u m classes c → HasCharges table c.charges → MissesAreCharged → length block.slots ≤ most_slots
    → IsBlockOf u node block → slice_get classes.slots node ≡ Some kinds → AreEventCharges (charge_in table) block.slots kinds amounts
    → AreChargesOf u classes c node kinds amounts
charges_of u m classes c table node block kinds amounts s has law few is stands are =
    let long : length kinds ≡ length block.slots =
    (s.classed.each node is.node kinds is.stands stands).long ∙ ap (λ (xs : List Slot). length xs) (slots_are u node block is) in
    let apart = groups_apart c.charges s.shape.charges.ascending in
    record {
      block = block;
      is = record { is = is; stands = stands };
      small = record {
        few = omega (arith, few, long);
        long = are.long ∙ sym long;
        small = amounts_small table c.charges has apart s.small.charges block.slots kinds amounts are (sym long);
      };
      charged = λ f.
          law (λ event class. slot_charge c.charges event.kind class) f block.slots kinds amounts
          (amounts_are table c.charges has apart s.small.charges block.slots kinds amounts are (sym long))
          ∙ missed_alike c.charges f 0 block.slots kinds;
    }

-- the length of the list of a node's classes
pub kinds_long : (u : Unfolded) (m : Machine) (classes : Classes) (c : Certificate) (node : ℕ) (block : Block) (kinds : List Class)
    → IsSubject u m classes c → IsBlockOf u node block → slice_get classes.slots node ≡ Some kinds → length block.slots ≡ length kinds
kinds_long u m classes c node block kinds s is stands =
    sym ((s.classed.each node is.node kinds is.stands stands).long ∙ ap (λ (xs : List Slot). length xs) (slots_are u node block is))

-- the diagram of what the misses are charged
pub site_is : {E : Type 0} (nodes : List Node) (u : Unfolded) (classes : Classes) (c : Certificate) (node : ℕ) (found kinds : List Class) (charges : List ℕ) (r : Result Dd E) → found ≡ kinds
    → AreChargesOf u classes c node found charges
    → IfOk r (λ d. (f : Combination) → time nodes f d.place ≡ charged_from charges 0 f found) → IfOk r (IsCharged nodes found)
    → IfOk r (IsSite nodes u classes c node kinds)
site_is nodes u classes c node found kinds charges (Ok d) same are times charged =
    subst (λ (ks : List Class). IsSite nodes u classes c node ks d) same
    (record { block = are.block; is = are.is; diagram = charged; times = λ f. times f ∙ are.charged f })
site_is nodes u classes c node found kinds charges (Err e) same are times charged = tt
