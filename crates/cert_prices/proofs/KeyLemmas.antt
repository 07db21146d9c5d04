-- Charges by their keys: what a table has when one charge more is put into it.
use Rattle.std.proofs.Common.{◌≡◌, ℕ, ◌+◌, ◌≤◌, Bool, true, false, ◌&&◌, cond, eqb, List, [], length, take, get_or, slice_get, Option, Some, unwrap_or, refl, sym, ap, ◌∙◌, arith}
use Rattle.std.specs.Map.{lookup}
use Rattle.std.proofs.lemmas.Bool.{false≢true, eqb-true}
use Rattle.std.proofs.lemmas.List.{take_all}
use Rattle.std.proofs.lemmas.List.Sums.{sum_by_more}
use Rattle.std.proofs.lemmas.Option.{get_or_from_slice_get, same_Some, slice_get_within}
use Rattle.flow_block.specs.declared.block.Slot.{Slot}
use Rattle.flow_ctx.specs.declared.scope.Scope.{Scope}
use Rattle.flow_ctx.specs.declared.scope.Scope.TheVariants.{Run, Loop}
use Rattle.cache_class.specs.declared.class.Class.{Class}
use Rattle.cert_text.specs.declared.certificate.Charge.{Charge}
use Rattle.cert_rules.specs.Prices.{same_scope, charge_of}
use Rattle.cert_prices.specs.Keys.{AreApart, AreEventCharges, charge_in, event_charge, number_of, same_key, same_number}
use Rattle.cert_prices.proofs.AmongLemmas.{of_front}
use Rattle.cert_prices.proofs.GrownLemmas.{FirstOf}
use Rattle.cert_prices.proofs.SumLemmas.{sum_by-none}

-- the table has the charges of the first charges
pub record FirstCharges (charges : List Charge) (i : ℕ) (entries : List ((ℕ × Option ℕ) × ℕ)) : Type 0 where
  pub each : (line : ℕ) (scope : Scope) → charge_in entries line scope ≡ charge_of (take i charges) line scope

pub none_charged : (charges : List Charge) → FirstCharges charges 0 []
none_charged charges = record { each = λ line scope. refl }

-- whether a charge is listed for a line and a scope
abbrev is_for : ℕ → Scope → Charge → Bool
is_for line scope charge = eqb charge.line line && same_scope charge.scope scope

abbrev part : ℕ → Scope → Charge → ℕ
part line scope charge = cond (is_for line scope charge) charge.amount 0

both_true : (a b : Bool) → (a && b) ≡ true → (a ≡ true) × (b ≡ true)
both_true true b e = (refl, e)
both_true false b e = absurd (false≢true e)

one_scope : (s t : Scope) → same_scope s t ≡ true → s ≡ t
one_scope Run Run e = refl
one_scope Run (Loop m) e = absurd (false≢true e)
one_scope (Loop n) Run e = absurd (false≢true e)
one_scope (Loop n) (Loop m) e = ap Loop (eqb-true n m e)

-- the charge is for the line and scope of a key
pub is_key : (line : ℕ) (scope : Scope) (charge : Charge) → is_for line scope charge ≡ true → (charge.line ≡ line) × (charge.scope ≡ scope)
is_key line scope charge e =
    let b = both_true (eqb charge.line line) (same_scope charge.scope scope) e in
    (eqb-true charge.line line b.0, one_scope charge.scope scope b.1)

scopes : (s t : Scope) → same_number (number_of s) (number_of t) ≡ same_scope s t
scopes Run Run = refl
scopes Run (Loop m) = refl
scopes (Loop n) Run = refl
scopes (Loop n) (Loop m) = refl

keys : (line : ℕ) (scope : Scope) (charge : Charge) → same_key (charge.line, number_of charge.scope) (line, number_of scope) ≡ is_for line scope charge
keys line scope charge = ap (λ b. eqb charge.line line && b) (scopes charge.scope scope)

not_true : (b : Bool) → (b ≡ true → ⊥) → b ≡ false
not_true true never = absurd (never refl)
not_true false never = refl

module _ (charges : List Charge) (apart : AreApart charges) (i : ℕ) (charge : Charge) (at : slice_get charges i ≡ Some charge) where
  -- no charge before it is for its line and scope
  none_before : (line : ℕ) (scope : Scope) → is_for line scope charge ≡ true → charge_of (take i charges) line scope ≡ 0
  none_before line scope is = sum_by-none (part line scope) (take i charges) (λ k x e.
      let f = of_front charges i k x e in
      ap (λ b. cond b x.amount 0) (not_true (is_for line scope x) (λ other.
      let a = is_key line scope charge is in
      let b = is_key line scope x other in
      let pair = apart k i charge f.1 (slice_get_within charges i charge at) in
      let first = get_or_from_slice_get charges k x charge f.0 in
      let second = get_or_from_slice_get charges i charge charge at in
      pair (ap (λ (y : Charge). y.line) first ∙ b.0 ∙ sym a.0 ∙ sym (ap (λ (y : Charge). y.line) second))
      (ap (λ (y : Charge). y.scope) first ∙ b.1 ∙ sym a.1 ∙ sym (ap (λ (y : Charge). y.scope) second)))))

  charged : (b : Bool) (old : Option ℕ) (amount before : ℕ) → unwrap_or old 0 ≡ before → (b ≡ true → before ≡ 0)
      → unwrap_or (cond b (Some amount) old) 0 ≡ before + cond b amount 0
  charged true old amount before e none = let z = none refl in omega (arith, z)
  charged false old amount before e none = omega (arith, e)

  -- one charge more
  pub one_charged : (entries new : List ((ℕ × Option ℕ) × ℕ))
      → ((key : ℕ × Option ℕ) → lookup (same_key key) new ≡ cond (same_key (charge.line, number_of charge.scope) key) (Some charge.amount) (lookup (same_key key) entries))
      → FirstCharges charges i entries → FirstCharges charges (i + 1) new
  one_charged entries new made were = record {
    each = λ line scope.
        let more : charge_of (take (i + 1) charges) line scope ≡ charge_of (take i charges) line scope + part line scope (get_or charges i charge)
        = sum_by_more (part line scope) charges i charge (slice_get_within charges i charge at) in
        let here : part line scope (get_or charges i charge) ≡ part line scope charge = ap (part line scope) (get_or_from_slice_get charges i charge charge at) in
        let now : charge_in new line scope ≡ unwrap_or (cond (is_for line scope charge) (Some charge.amount) (lookup (same_key (line, number_of scope)) entries)) 0
        = ap (λ (o : Option ℕ). unwrap_or o 0)
        (made (line, number_of scope) ∙ ap (λ b. cond b (Some charge.amount) (lookup (same_key (line, number_of scope)) entries)) (keys line scope charge)) in
        let sum = charged (is_for line scope charge) (lookup (same_key (line, number_of scope)) entries) charge.amount (charge_of (take i charges) line scope) (were.each line scope) (none_before line scope) in
        now ∙ sum ∙ sym (more ∙ ap (λ n. charge_of (take i charges) line scope + n) here);
  }

-- the whole table
pub all_charged : (charges : List Charge) (i : ℕ) (entries : List ((ℕ × Option ℕ) × ℕ)) → length charges ≤ i → FirstCharges charges i entries
    → (line : ℕ) (scope : Scope) → charge_in entries line scope ≡ charge_of charges line scope
all_charged charges i entries h were line scope = were.each line scope ∙ ap (λ cs. charge_of cs line scope) (take_all i charges h)

-- the number is what the event is charged, if its class is listed
abbrev pub IsCharge : (ℕ → Scope → ℕ) → List Class → ℕ → Slot → ℕ → Type 0
IsCharge charge classes number event amount = (class : Class) → slice_get classes number ≡ Some class → amount ≡ event_charge charge event.kind class

-- one charge is
pub is_charge : (charge : ℕ → Scope → ℕ) (classes : List Class) (number : ℕ) (event : Slot) (class : Class) (amount : ℕ) → slice_get classes number ≡ Some class
    → amount ≡ event_charge charge event.kind class → IsCharge charge classes number event amount
is_charge charge classes number event class amount at is = λ other there.
    is ∙ ap (event_charge charge event.kind) (same_Some class other (sym at ∙ there))

-- all events
pub all_events : (charge : ℕ → Scope → ℕ) (events : List Slot) (classes : List Class) (charges : List ℕ)
    → FirstOf (IsCharge charge classes) events (length events) charges → AreEventCharges charge events classes charges
all_events charge events classes charges were = record {
  long = were.long;
  each = λ number event class at there. were.each number event at (slice_get_within events number event at) class there;
}
