-- What misses are charged is, for each charge, its amount as often as an event of its group misses.
use Rattle.std.proofs.Common.{◌≡◌, ℕ, ◌+◌, ◌*◌, ◌==◌, ◌&&◌, Bool, true, false, cond, List, [], ◌∷◌, slice_index_or, refl, sym, ap, ap₂, ◌∙◌, inl, inr, arith}
use Rattle.std.proofs.lemmas.Bool.{cases_eq, eq-eqb, ne_eqb}
use Rattle.xdd_table.specs.Diagram.{Combination}
use Rattle.flow_block.specs.declared.block.Slot.{Slot}
use Rattle.flow_block.specs.declared.block.SlotKind.{SlotKind}
use Rattle.flow_block.specs.declared.block.SlotKind.TheVariants.{Fetch, Multiply, Data}
use Rattle.flow_ctx.specs.declared.scope.Scope.{Scope}
use Rattle.flow_ctx.specs.declared.scope.Scope.TheVariants.{Run, Loop}
use Rattle.cache_class.specs.declared.class.Class.{Class}
use Rattle.cache_class.specs.declared.class.Class.TheVariants.{AlwaysHit, AlwaysMiss, FirstMiss, Open}
use Rattle.cache_class.specs.declared.class.Classes.{Classes}
use Rattle.cert_text.specs.declared.certificate.Charge.{Charge}
use Rattle.cert_rules.specs.Prices.{missed, missed_from, same_scope, slot_charge}
use Rattle.class_laws.specs.Visits.{Visit, is_of_group, is_scope, misses_from, misses_in, visit_misses}
use Rattle.bound_laws.proofs.Sums.{bit, bit_is, paid_if, sum_of, as_sum, sum_same, sum_zero, sum_add}

-- ---- one event

pub tests_agree : (a b : ℕ) → (a == b) ≡ (b == a)
tests_agree a b = elim (cases_eq a b) [
  | inl same ↦ eq-eqb a b same ∙ sym (eq-eqb b a (sym same))
  | inr apart ↦ ne_eqb a b apart ∙ sym (ne_eqb b a (λ e. apart (sym e)))
]

scopes_agree : (a b : Scope) → same_scope a b ≡ is_scope b a
scopes_agree Run Run = refl
scopes_agree Run (Loop m) = refl
scopes_agree (Loop n) Run = refl
scopes_agree (Loop n) (Loop m) = tests_agree n m

-- an event of the group of a charge misses
abbrev pub misses_one : Bool → SlotKind → Class → Charge → Bool
misses_one miss kind class c = miss && is_of_group kind class c.line c.scope

of_group : (line : ℕ) (scope : Scope) (c : Charge)
    → cond ((c.line == line) && same_scope c.scope scope) c.amount 0 ≡ c.amount * bit (misses_one true (Fetch line) (FirstMiss scope) c)
of_group line scope c =
    ap (λ b. cond (b && same_scope c.scope scope) c.amount 0) (tests_agree c.line line)
    ∙ ap (λ b. cond ((line == c.line) && b) c.amount 0) (scopes_agree c.scope scope)
    ∙ paid_if ((line == c.line) && is_scope scope c.scope) c.amount

not_line : (b : Bool) → bit (b && false) ≡ 0
unfolding bit
not_line true = refl
not_line false = refl

none_of : (charges : List Charge) (test : Charge → Bool) → ((c : Charge) → bit (test c) ≡ 0) → 0 ≡ sum_of (λ c. c.amount * bit (test c)) charges
none_of charges test none = sym (sum_zero (λ c. c.amount * bit (test c)) charges (λ c. let e = none c in ap (λ n. c.amount * n) e ∙ omega arith))

zero_bit : bit false ≡ 0
unfolding bit
zero_bit = refl

one_charged : (charges : List Charge) (kind : SlotKind) (class : Class) → slot_charge charges kind class ≡ sum_of (λ c. c.amount * bit (misses_one true kind class c)) charges
one_charged charges (Fetch line) AlwaysHit = none_of charges (λ c. misses_one true (Fetch line) AlwaysHit c) (λ c. not_line (line == c.line))
one_charged charges (Fetch line) AlwaysMiss = none_of charges (λ c. misses_one true (Fetch line) AlwaysMiss c) (λ c. not_line (line == c.line))
one_charged charges (Fetch line) (FirstMiss scope) =
    as_sum (λ c. cond ((c.line == line) && same_scope c.scope scope) c.amount 0) charges
    ∙ sum_same (λ c. cond ((c.line == line) && same_scope c.scope scope) c.amount 0) (λ c. c.amount * bit (misses_one true (Fetch line) (FirstMiss scope) c)) charges (of_group line scope)
one_charged charges (Fetch line) Open = none_of charges (λ c. misses_one true (Fetch line) Open c) (λ c. not_line (line == c.line))
one_charged charges Multiply class = none_of charges (λ c. misses_one true Multiply class c) (λ c. zero_bit)
one_charged charges Data class = none_of charges (λ c. misses_one true Data class c) (λ c. zero_bit)

event_charged : (charges : List Charge) (miss : Bool) (kind : SlotKind) (class : Class)
    → cond miss (slot_charge charges kind class) 0 ≡ sum_of (λ c. c.amount * bit (misses_one miss kind class c)) charges
event_charged charges true kind class = one_charged charges kind class
event_charged charges false kind class = none_of charges (λ c. misses_one false kind class c) (λ c. zero_bit)

-- ---- the events of a visit

-- the sum of charges, by what each is counted
abbrev pub charged : List Charge → (Charge → ℕ) → ℕ
charged charges count = sum_of (λ c. c.amount * count c) charges

charged_add : (charges : List Charge) (f g h : Charge → ℕ) → ((c : Charge) → h c ≡ f c + g c) → charged charges h ≡ charged charges f + charged charges g
charged_add charges f g h is =
    sum_same (λ c. c.amount * h c) (λ c. c.amount * f c + c.amount * g c) charges (λ c. ap (λ n. c.amount * n) (is c) ∙ omega arith)
    ∙ sum_add (λ c. c.amount * f c) (λ c. c.amount * g c) charges

charged_none : (charges : List Charge) (f : Charge → ℕ) → ((c : Charge) → f c ≡ 0) → 0 ≡ charged charges f
charged_none charges f none = sym (sum_zero (λ c. c.amount * f c) charges (λ c. ap (λ n. c.amount * n) (none c) ∙ omega arith))

events_charged : (charges : List Charge) (f : Combination) (number : ℕ) (events : List Slot) (classes : List Class)
    → missed_from charges f number events classes ≡ charged charges (λ c. misses_from c.line c.scope f number events classes)
events_charged charges f number [] classes = charged_none charges (λ c. misses_from c.line c.scope f number [] classes) (λ c. refl)
events_charged charges f number (event ∷ events) [] = charged_none charges (λ c. misses_from c.line c.scope f number (event ∷ events) []) (λ c. refl)
events_charged charges f number (event ∷ events) (class ∷ classes) =
    let one = event_charged charges (f number) event.kind class in
    let rest = events_charged charges f (number + 1) events classes in
    let both = charged_add charges (λ c. bit (misses_one (f number) event.kind class c)) (λ c. misses_from c.line c.scope f (number + 1) events classes)
    (λ c. misses_from c.line c.scope f number (event ∷ events) (class ∷ classes))
    (λ c. ap (λ n. n + misses_from c.line c.scope f (number + 1) events classes) (bit_is (misses_one (f number) event.kind class c))) in
    ap₂ (λ (x y : ℕ). x + y) one rest ∙ sym both

-- what the misses of a visit are charged
abbrev pub missed_at : List Charge → Classes → Visit → ℕ
missed_at charges classes visit = missed charges visit.outcomes visit.block (slice_index_or classes.slots visit.node [])

-- the misses of visits are charged the amount of each charge, as often as its group's events miss
pub visits_charged : (charges : List Charge) (classes : Classes) (visits : List Visit)
    → sum_of (λ visit. missed_at charges classes visit) visits ≡ charged charges (λ c. misses_in classes c.line c.scope visits)
visits_charged charges classes [] = charged_none charges (λ c. misses_in classes c.line c.scope []) (λ c. refl)
visits_charged charges classes (visit ∷ visits) =
    let one = events_charged charges visit.outcomes 0 visit.block.slots (slice_index_or classes.slots visit.node []) in
    let rest = visits_charged charges classes visits in
    let both = charged_add charges (λ c. visit_misses classes c.line c.scope visit) (λ c. misses_in classes c.line c.scope visits)
    (λ c. misses_in classes c.line c.scope (visit ∷ visits))
    (λ c. as_sum (λ v. visit_misses classes c.line c.scope v) (visit ∷ visits) ∙ ap (λ n. visit_misses classes c.line c.scope visit + n) (sym (as_sum (λ v. visit_misses classes c.line c.scope v) visits))) in
    ap₂ (λ (x y : ℕ). x + y) one rest ∙ sym both
