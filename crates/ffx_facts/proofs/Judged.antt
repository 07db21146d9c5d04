-- Elements that were found fine, and the first that is not.
use Rattle.std.proofs.Common.{◌≡◌, ℕ, ◌+◌, ◌<◌, Bool, true, false, ◌&&◌, List, [], ◌∷◌, ◌++◌, length, get_or, take, map, Some, None, Ok, Err, refl, sym, ap, ◌∙◌, arith, eq-eqb}
use Rattle.std.specs.Prelude.{Result, ◌||◌, ◌==◌, not}
use Rattle.std.specs.List.{AllByRecursion, list_any, IsDistinct}
use Rattle.std.proofs.lemmas.Bool.{eqb-true, false_from_ne_true, false≢true}
use Rattle.std.proofs.lemmas.List.{take_more, map-append, length-map, get_or-map}
use Rattle.std.proofs.lemmas.List.Folds.{list_any-append}
use Rattle.std.proofs.lemmas.Option.{slice_get-get_or}
use Rattle.wx_base.specs.declared.symbol.Symbol.{Symbol}
use Rattle.ffx_facts.specs.declared.kind.Kind.{Kind}
use Rattle.ffx_facts.specs.declared.kind.Kind.TheVariants.{FlowFacts, Function, Loop, MultiBranch, MultiCall, Target}
use Rattle.ffx_facts.specs.declared.error.FactsError.{FactsError}
use Rattle.ffx_facts.specs.declared.error.FactsError.TheVariants.{NoMemory, Syntax, Number, NoAddress, NoSymbol, Twice}
use Rattle.ffx_facts.specs.declared.says.Says.{Says}
use Rattle.ffx_facts.specs.declared.seen.Seen.{Seen}
use Rattle.ffx_facts.specs.declared.element.Element.{Element as Kept}
use Rattle.ffx_facts.specs.Scan.{element}
use Rattle.ffx_facts.specs.Machine.{Element}
use Rattle.ffx_facts.specs.Pieces.{is_same_kind}
use Rattle.ffx_facts.specs.Values.{IsElementFault, says}
use Rattle.ffx_facts.specs.Faults.{AreFine, IsFirstFault, fault_behind, is_fact_at, is_same_fact, states}
use Rattle.ffx_facts.specs.Memory.{HasSeen, was_seen}
use Rattle.ffx_facts.specs.Refusals.{IsValueRefusal}

-- no element yet
pub fine_none : (symbols : List Symbol) → AreFine symbols [] []
unfolding IsDistinct
fine_none symbols = record { say = refl; once = tt }

same_kind_flips : (a b : Kind) → is_same_kind a b ≡ is_same_kind b a
same_kind_flips FlowFacts FlowFacts = refl
same_kind_flips FlowFacts Function = refl
same_kind_flips FlowFacts Loop = refl
same_kind_flips FlowFacts MultiBranch = refl
same_kind_flips FlowFacts MultiCall = refl
same_kind_flips FlowFacts Target = refl
same_kind_flips Function FlowFacts = refl
same_kind_flips Function Function = refl
same_kind_flips Function Loop = refl
same_kind_flips Function MultiBranch = refl
same_kind_flips Function MultiCall = refl
same_kind_flips Function Target = refl
same_kind_flips Loop FlowFacts = refl
same_kind_flips Loop Function = refl
same_kind_flips Loop Loop = refl
same_kind_flips Loop MultiBranch = refl
same_kind_flips Loop MultiCall = refl
same_kind_flips Loop Target = refl
same_kind_flips MultiBranch FlowFacts = refl
same_kind_flips MultiBranch Function = refl
same_kind_flips MultiBranch Loop = refl
same_kind_flips MultiBranch MultiBranch = refl
same_kind_flips MultiBranch MultiCall = refl
same_kind_flips MultiBranch Target = refl
same_kind_flips MultiCall FlowFacts = refl
same_kind_flips MultiCall Function = refl
same_kind_flips MultiCall Loop = refl
same_kind_flips MultiCall MultiBranch = refl
same_kind_flips MultiCall MultiCall = refl
same_kind_flips MultiCall Target = refl
same_kind_flips Target FlowFacts = refl
same_kind_flips Target Function = refl
same_kind_flips Target Loop = refl
same_kind_flips Target MultiBranch = refl
same_kind_flips Target MultiCall = refl
same_kind_flips Target Target = refl

pub equal_flips : (a b : ℕ) → (a == b) ≡ (b == a)
equal_flips a b = by (a == b) refl
  where
    by : (x : Bool) → (a == b) ≡ x → (a == b) ≡ (b == a)
    by true e = e ∙ sym (eq-eqb b a (sym (eqb-true a b e)))
    by false e = e ∙ sym (false_from_ne_true (b == a) (λ k. false≢true (sym e ∙ eq-eqb a b (sym (eqb-true b a k)))))

swapped : (a b c d : Bool) → (a && (b && c && d)) ≡ (b && (a && c && d))
swapped true true c d = refl
swapped true false c d = refl
swapped false true c d = refl
swapped false false c d = refl

pub same_fact_flips : (s t : Says) → is_same_fact s t ≡ is_same_fact t s
same_fact_flips s t =
    rw (same_kind_flips t.kind s.kind, equal_flips t.address s.address) (swapped (states s.kind s.bounds) (states t.kind t.bounds) (is_same_kind s.kind t.kind) (s.address == t.address))

apart_more : (x y : Says) (all : List Says) → AllByRecursion (λ z. is_same_fact x z ≡ false) all → is_same_fact x y ≡ false → AllByRecursion (λ z. is_same_fact x z ≡ false) (all ++ y ∷ [])
apart_more x y [] a h = (h, tt)
apart_more x y (z ∷ all) a h = (a.0, apart_more x y all a.1 h)

or_false : (a b : Bool) → (a || b) ≡ false → (a ≡ false) × (b ≡ false)
or_false false b h = (refl, h)
or_false true b h = absurd (false≢true (sym h))

distinct_more : (all : List Says) (s : Says) → IsDistinct is_same_fact all → list_any (is_same_fact s) all ≡ false → IsDistinct is_same_fact (all ++ s ∷ [])
unfolding IsDistinct
distinct_more [] s d h = (tt, tt)
distinct_more (x ∷ all) s d h =
    let parts = or_false (is_same_fact s x) (list_any (is_same_fact s) all) h in
    (apart_more x s all d.0 (same_fact_flips x s ∙ parts.0), distinct_more all s d.1 parts.1)

-- one element more is fine
pub fine_more : (symbols : List Symbol) (elements : List Element) (i : ℕ) (d : Element) (all : List Says) (s : Says) → i < length elements → AreFine symbols (take i elements) all → says symbols (get_or elements i d) ≡ Ok s
    → list_any (is_same_fact s) all ≡ false → AreFine symbols (take (i + 1) elements) (all ++ s ∷ [])
fine_more symbols elements i d all s inside fine e new = record {
  say = ap (map (says symbols)) (take_more elements i d inside) ∙ map-append (says symbols) (take i elements) (get_or elements i d ∷ [])
      ∙ ap (λ (x : List (Result Says FactsError)). x ++ says symbols (get_or elements i d) ∷ []) fine.say
      ∙ ap (λ (x : Result Says FactsError). map (λ (t : Says). Ok t) all ++ x ∷ []) e
      ∙ sym (map-append (λ (t : Says). Ok t) all (s ∷ []));
  once = distinct_more all s fine.once new;
}

-- an element at fault behind those that are fine
pub first_fault : (symbols : List Symbol) (elements : List Element) (i : ℕ) (d : Element) (all : List Says) (fault : FactsError) → i < length elements → AreFine symbols (take i elements) all
    → fault_behind all (says symbols (get_or elements i d)) ≡ Some fault → IsFirstFault symbols elements fault
first_fault symbols elements i d all fault inside fine wrong = record {
  at = i;
  before = all;
  fine = fine;
  element = get_or elements i d;
  is = slice_get-get_or elements i d inside;
  wrong = wrong;
}

-- an element at fault by itself
pub own_fault : (symbols : List Symbol) (elements : List Element) (i : ℕ) (d : Element) (all : List Says) (fault : FactsError) → i < length elements → AreFine symbols (take i elements) all
    → Err fault ≡ says symbols (get_or elements i d) → IsElementFault fault → IsValueRefusal symbols elements fault
own_fault symbols elements i d all fault inside fine e own = of fault own (first_fault symbols elements i d all fault inside fine (ap (fault_behind all) (sym e)))
  where
    of : (f : FactsError) → IsElementFault f → IsFirstFault symbols elements f → IsValueRefusal symbols elements f
    of (Number at) own w = w
    of (NoAddress at) own w = w
    of (NoSymbol at) own w = w
    of NoMemory own w = absurd own
    of (Syntax at) own w = absurd own
    of (Twice address) own w = absurd own

any_of_none : (all : List Says) (p : Says → Bool) → list_any (λ t. false && p t) all ≡ false
any_of_none [] p = refl
any_of_none (t ∷ all) p = any_of_none all p

any_and : (b : Bool) (p : Says → Bool) (all : List Says) → list_any (λ t. b && p t) all ≡ (b && list_any p all)
any_and true p all = refl
any_and false p all = any_of_none all p

-- whether a fact repeats one is whether it was seen
pub repeats_seen : (seen : Seen) (all : List Says) (s : Says) → HasSeen seen all → list_any (is_same_fact s) all ≡ (states s.kind s.bounds && was_seen seen s.kind s.address)
repeats_seen seen all s h =
    any_and (states s.kind s.bounds) (is_fact_at s.kind s.address) all ∙ ap (λ (b : Bool). states s.kind s.bounds && b) (sym (h.facts s.kind s.address))

-- nothing was seen
pub seen_none : (seen : Seen) → ((kind : Kind) (address : ℕ) → was_seen seen kind address ≡ false) → HasSeen seen []
seen_none seen h = record { facts = h }

or_none : (b : Bool) → (b || false) ≡ b
or_none true = refl
or_none false = refl

-- one more was seen
pub seen_more : (old new : Seen) (all : List Says) (s : Says) → HasSeen old all → ((kind : Kind) (address : ℕ) → was_seen new kind address ≡ (was_seen old kind address || is_fact_at kind address s)) → HasSeen new (all ++ s ∷ [])
seen_more old new all s had h = record {
  facts = λ kind address. h kind address ∙ ap (λ (b : Bool). b || is_fact_at kind address s) (had.facts kind address)
      ∙ ap (λ (b : Bool). list_any (is_fact_at kind address) all || b) (sym (or_none (is_fact_at kind address s))) ∙ sym (list_any-append (is_fact_at kind address) all (s ∷ []));
}

pub not_first : (b : Bool) → false ≡ not b → b ≡ true
not_first true h = refl
not_first false h = absurd (false≢true h)

pub is_first : (b : Bool) → true ≡ not b → b ≡ false
is_first true h = absurd (false≢true (sym h))
is_first false h = refl

-- what a reading of no element keeps
abbrev pub no_kept : Kept
no_kept = record { kind = FlowFacts; at = 0; address = None; label = None; offset = None; maxcount = None; totalcount = None }

-- what a kept element says
pub says_at : (symbols : List Symbol) (kept : List Kept) (i : ℕ) → i < length kept → says symbols (element (get_or kept i no_kept)) ≡ says symbols (get_or (map element kept) i (element no_kept))
says_at symbols kept i inside = ap (says symbols) (sym (get_or-map element kept i no_kept (element no_kept) inside))

pub inside_map : (kept : List Kept) (i : ℕ) → i < length kept → i < length (map element kept)
inside_map kept i inside = let n : length (map element kept) ≡ length kept = length-map kept element in omega arith

-- a fact that repeats one is at fault
pub twice_behind : (all : List Says) (s : Says) → list_any (is_same_fact s) all ≡ true → fault_behind all (Ok s) ≡ Some (Twice s.address)
twice_behind all s e = rw e refl
