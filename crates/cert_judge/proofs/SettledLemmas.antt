-- Settled combinations are those that the classes allow.
use Rattle.std.proofs.Common.{◌≡◌, ◌≢◌, ℕ, ◌+◌, Bool, true, false, List, length, slice_get, Option, Some, None, if◌then◌else◌, refl, sym, subst, inl, inr, arith, eqb, nat_lt}
use Rattle.std.proofs.Math.Path.{fun_ext}
use Rattle.std.proofs.lemmas.Bool.{cases_lt}
use Rattle.std.proofs.lemmas.Bool.Decides.{nat_tests}
use Rattle.std.proofs.lemmas.Option.{slice_get_past}
use Rattle.cache_class.specs.declared.class.Class.{Class}
use Rattle.cache_class.specs.declared.class.Class.TheVariants.{AlwaysHit, AlwaysMiss, FirstMiss, Open}
use Rattle.cache_class.specs.Allowed.{Allows, IsAllowed}
use Rattle.xdd_table.specs.Diagram.{Combination}
use Rattle.cert_judge.specs.Settled.{settled_miss, settled_event, settled}

-- what a class allows is settled as it is
allowed_stays : (class : Option Class) (miss : Bool) → ((c : Class) → class ≡ Some c → Allows c miss) → settled_miss class miss ≡ miss
allowed_stays None miss allows = refl
allowed_stays (Some AlwaysHit) miss allows = sym (allows AlwaysHit refl)
allowed_stays (Some AlwaysMiss) miss allows = sym (allows AlwaysMiss refl)
allowed_stays (Some (FirstMiss scope)) miss allows = refl
allowed_stays (Some Open) miss allows = refl

pub settled_allowed : (classes : List Class) (f : Combination) → IsAllowed classes f → settled classes f ≡ f
settled_allowed classes f allowed = fun_ext λ e. allowed_stays (slice_get classes e) (f e) (λ c is. allowed e c is)

-- what is settled is allowed
settled_stays : (class : Class) (miss : Bool) → Allows class (settled_miss (Some class) miss)
settled_stays AlwaysHit miss = refl
settled_stays AlwaysMiss miss = refl
settled_stays (FirstMiss scope) miss = tt
settled_stays Open miss = tt

pub settled_is_allowed : (classes : List Class) (f : Combination) → IsAllowed classes (settled classes f)
settled_is_allowed classes f e class is = rw is (settled_stays class (f e))

-- the combination with the events before a number settled
abbrev pub settled_below : List Class → ℕ → Combination → Combination
settled_below classes bound f = λ e. if nat_lt e bound then settled_miss (slice_get classes e) (f e) else f e

pub none_settled : (classes : List Class) (f : Combination) → settled_below classes 0 f ≡ f
none_settled classes f = fun_ext λ e. none e
  where
    none : (e : ℕ) → (if nat_lt e 0 then settled_miss (slice_get classes e) (f e) else f e) ≡ f e
    none e = let past : nat_lt e 0 ≡ false = grind (arith, nat_tests) in rw past

all_settled : (classes : List Class) (f : Combination) → settled_below classes (length classes) f ≡ settled classes f
all_settled classes f = fun_ext λ e. all e
  where
    all : (e : ℕ) → (if nat_lt e (length classes) then settled_miss (slice_get classes e) (f e) else f e) ≡ settled_miss (slice_get classes e) (f e)
    all e = elim (cases_lt e (length classes)) [
      | inl l ↦ let within : nat_lt e (length classes) ≡ true = grind (arith, nat_tests) in rw within
      | inr l ↦
          let past : nat_lt e (length classes) ≡ false = grind (arith, nat_tests) in
          rw (past, slice_get_past classes e l)
    ]

pub settled_at_end : (classes : List Class) (bound : ℕ) (f : Combination) → bound ≡ length classes → settled_below classes bound f ≡ settled classes f
settled_at_end classes bound f is = subst (λ (n : ℕ). settled_below classes n f ≡ settled classes f) (sym is) (all_settled classes f)

-- an event settled, at that event and at others
event_settled : (class : Class) (e : ℕ) (f : Combination) → settled_event class e f e ≡ settled_miss (Some class) (f e)
event_settled AlwaysHit e f = let same : eqb e e ≡ true = grind (arith, nat_tests) in rw same
event_settled AlwaysMiss e f = let same : eqb e e ≡ true = grind (arith, nat_tests) in rw same
event_settled (FirstMiss scope) e f = refl
event_settled Open e f = refl

others_stay : (class : Class) (e other : ℕ) (f : Combination) → other ≢ e → settled_event class e f other ≡ f other
others_stay AlwaysHit e other f differ = let apart : eqb other e ≡ false = grind (arith, nat_tests) in rw apart
others_stay AlwaysMiss e other f differ = let apart : eqb other e ≡ false = grind (arith, nat_tests) in rw apart
others_stay (FirstMiss scope) e other f differ = refl
others_stay Open e other f differ = refl

pub one_more_settled : (classes : List Class) (bound : ℕ) (class : Class) (f : Combination) → slice_get classes bound ≡ Some class
    → settled_below classes bound (settled_event class bound f) ≡ settled_below classes (bound + 1) f
one_more_settled classes bound class f is = fun_ext λ e. more e
  where
    M : ℕ → Bool → Bool
    M e = settled_miss (slice_get classes e)

    more : (e : ℕ) → settled_below classes bound (settled_event class bound f) e ≡ settled_below classes (bound + 1) f e
    more e = elim (cases_lt e bound) [
      | inl l ↦
          let differ : e ≢ bound = omega arith in
          let within : nat_lt e bound ≡ true = grind (arith, nat_tests) in
          let within' : nat_lt e (bound + 1) ≡ true = grind (arith, nat_tests) in
          rw (within, within', others_stay class bound e f differ)
      | inr l ↦ elim (cases_lt bound e) [
        | inl g ↦
            let differ : e ≢ bound = omega arith in
            let past : nat_lt e bound ≡ false = grind (arith, nat_tests) in
            let past' : nat_lt e (bound + 1) ≡ false = grind (arith, nat_tests) in
            rw (past, past', others_stay class bound e f differ)
        | inr g ↦
            let same : e ≡ bound = omega arith in
            let past : nat_lt bound bound ≡ false = grind (arith, nat_tests) in
            let within : nat_lt bound (bound + 1) ≡ true = grind (arith, nat_tests) in
            rw (same, past, within, is) (event_settled class bound f)
      ]
    ]
