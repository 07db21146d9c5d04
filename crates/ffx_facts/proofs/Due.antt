-- Some answer is due, whatever the bytes and the symbols.
use Rattle.std.proofs.Common.{◌≡◌, ℕ, zero, suc, ◌<◌, ◌≤◌, Bool, true, false, List, [], ◌∷◌, length, get_or, take, Some, None, Ok, Err, refl, subst, arith, inl, inr, add-one}
use Rattle.std.specs.Prelude.{Option, Result, IfErr, nat_lt, ◌+◌, ◌++◌, ◌^◌, if◌then◌else◌, ◌⊎◌, unwrap_or}
use Rattle.std.specs.List.{list_any}
use Rattle.std.proofs.lemmas.List.{take_all}
use Rattle.wx_base.specs.declared.symbol.Symbol.{Symbol}
use Rattle.wx_base.specs.Symbols.{symbol_value}
use Rattle.ffx_facts.specs.declared.kind.Kind.{Kind}
use Rattle.ffx_facts.specs.declared.kind.Kind.TheVariants.{FlowFacts, Function, Loop, MultiBranch, MultiCall, Target}
use Rattle.ffx_facts.specs.declared.error.FactsError.{FactsError}
use Rattle.ffx_facts.specs.declared.error.FactsError.TheVariants.{NoMemory, Syntax, Number, NoAddress, NoSymbol, Twice}
use Rattle.ffx_facts.specs.declared.says.Says.{Says}
use Rattle.ffx_facts.specs.Machine.{Element, State, is_whole, run, start, step}
use Rattle.ffx_facts.specs.Scan.{element}
use Rattle.ffx_facts.specs.Values.{IsElementFault, ◌>>=◌, address, address_by, address_of_label, bounds_of, count_in, is_not_computed, loop_says, moved_by, number, number_in, place_says, says, says_as, wanted}
use Rattle.ffx_facts.specs.File.{IsFile, IsNoFile}
use Rattle.ffx_facts.specs.Faults.{AreFine, IsFirstFault, is_same_fact}
use Rattle.ffx_facts.specs.Causes.{HasFault, IsCause}
use Rattle.ffx_facts.specs.Laws.{StatedOrRefused}
use Rattle.ffx_facts.proofs.Fronts.{front_more, stops_at_end, stops_within}
use Rattle.ffx_facts.proofs.Judged.{fine_more, fine_none, first_fault, no_kept, twice_behind}
use Rattle.ffx_facts.proofs.Stated.{facts_said, stated}

-- ---- what can be wrong with an element alone

own_then : {A B : Type 0} (r : Result A FactsError) (f : A → Result B FactsError) → IfErr r IsElementFault → ((x : A) → IfErr (f x) IsElementFault) → IfErr (r >>= f) IsElementFault
own_then (Ok x) f own later = later x
own_then (Err fault) f own later = own

own_wanted : (e : Element) (n : Option ℕ) → IfErr (wanted e n) IsElementFault
own_wanted e None = tt
own_wanted e (Some n) = tt

own_number : (e : Element) (text : Option (List ℕ)) → IfErr (number_in e text) IsElementFault
own_number e None = tt
own_number e (Some text) = own_wanted e (number text)

own_count : (e : Element) (text : Option (List ℕ)) → IfErr (count_in e text) IsElementFault
own_count e None = tt
own_count e (Some text) = by (is_not_computed text)
  where
    by : (b : Bool) → IfErr (let r : Result (Option ℕ) FactsError = if b then Ok None else wanted e (number text) in r) IsElementFault
    by true = tt
    by false = own_wanted e (number text)

own_moved : (e : Element) (offset : ℕ) (value : Option ℕ) → IfErr (moved_by e offset value) IsElementFault
own_moved e offset None = tt
own_moved e offset (Some value) = by (nat_lt (value + offset) (2 ^ 32))
  where
    by : (b : Bool) → IfErr (let r : Result ℕ FactsError = if b then Ok (value + offset) else Err (Number e.at) in r) IsElementFault
    by true = tt
    by false = tt

own_label : (symbols : List Symbol) (e : Element) (offset : ℕ) (label : Option (List ℕ)) → IfErr (address_of_label symbols e offset label) IsElementFault
own_label symbols e offset None = tt
own_label symbols e offset (Some name) = own_moved e offset (symbol_value symbols name)

own_address_by : (symbols : List Symbol) (e : Element) (given offset : Option ℕ) → IfErr (address_by symbols e given offset) IsElementFault
own_address_by symbols e (Some given) offset = tt
own_address_by symbols e None offset = own_label symbols e (unwrap_or offset 0) e.label

own_address : (symbols : List Symbol) (e : Element) → IfErr (address symbols e) IsElementFault
unfolding address
own_address symbols e =
    own_then (number_in e e.address) (λ given. number_in e e.offset >>= (λ offset. address_by symbols e given offset)) (own_number e e.address)
    (λ given. own_then (number_in e e.offset) (λ offset. address_by symbols e given offset) (own_number e e.offset) (λ offset. own_address_by symbols e given offset))

own_place : (kind : Kind) (symbols : List Symbol) (e : Element) → IfErr (place_says kind symbols e) IsElementFault
own_place kind symbols e =
    own_then (address symbols e) (λ a. Ok (record { kind = kind; address = a; bounds = None })) (own_address symbols e) (λ a. tt)

own_loop : (symbols : List Symbol) (e : Element) → IfErr (loop_says symbols e) IsElementFault
own_loop symbols e =
    own_then (count_in e e.maxcount) (λ maxcount. count_in e e.totalcount >>= (λ total. address symbols e >>= (λ a. Ok (record { kind = Loop; address = a; bounds = bounds_of maxcount total })))) (own_count e e.maxcount)
    (λ maxcount. own_then (count_in e e.totalcount) (λ total. address symbols e >>= (λ a. Ok (record { kind = Loop; address = a; bounds = bounds_of maxcount total }))) (own_count e e.totalcount)
    (λ total. own_then (address symbols e) (λ a. Ok (record { kind = Loop; address = a; bounds = bounds_of maxcount total })) (own_address symbols e) (λ a. tt)))

own_says : (symbols : List Symbol) (e : Element) → IfErr (says symbols e) IsElementFault
unfolding says
own_says symbols e = by e.kind
  where
    by : (kind : Kind) → IfErr (says_as kind symbols e) IsElementFault
    by FlowFacts = tt
    by Function = tt
    by Loop = own_loop symbols e
    by MultiBranch = own_place MultiBranch symbols e
    by MultiCall = own_place MultiCall symbols e
    by Target = own_place Target symbols e

-- ---- elements

-- all elements are fine, or one is the first with a fault, which is no want of memory and no fault of the file
abbrev Judged : List Symbol → List Element → List Element → Type 0
Judged symbols es front = ((all : List Says) × AreFine symbols front all) ⊎ ((fault : FactsError) × ((bytes : List ℕ) → HasFault bytes symbols fault → IsCause bytes symbols fault) × IsFirstFault symbols es fault)

own_cause : (symbols : List Symbol) (fault : FactsError) → IsElementFault fault → (bytes : List ℕ) → HasFault bytes symbols fault → IsCause bytes symbols fault
own_cause symbols (Number at) own bytes h = h
own_cause symbols (NoAddress at) own bytes h = h
own_cause symbols (NoSymbol at) own bytes h = h
own_cause symbols NoMemory own bytes h = absurd own
own_cause symbols (Syntax at) own bytes h = absurd own
own_cause symbols (Twice address) own bytes h = absurd own

-- one element more
judged_next : (symbols : List Symbol) (es : List Element) (i : ℕ) (d : Element) (all : List Says) (r : Result Says FactsError) → i < length es → AreFine symbols (take i es) all → says symbols (get_or es i d) ≡ r → IfErr r IsElementFault
    → Judged symbols es (take (i + 1) es)
judged_next symbols es i d all (Err fault) inside fine e own =
    inr (fault, own_cause symbols fault own, first_fault symbols es i d all fault inside fine (rw e refl))
judged_next symbols es i d all (Ok s) inside fine e own = by (list_any (is_same_fact s) all) refl
  where
    by : (b : Bool) → list_any (is_same_fact s) all ≡ b → Judged symbols es (take (i + 1) es)
    by true again = inr (Twice s.address, (λ bytes h. h), first_fault symbols es i d all (Twice s.address) inside fine (rw e (twice_behind all s again)))
    by false new = inl (all ++ s ∷ [], fine_more symbols es i d all s inside fine e new)

judged_front : (symbols : List Symbol) (es : List Element) (n : ℕ) → n ≤ length es → Judged symbols es (take n es)
judged_front symbols es zero h = inl ([], fine_none symbols)
judged_front symbols es (suc n) h = elim (judged_front symbols es n (omega arith)) [
  | inr fault ↦ inr fault
  | inl fine ↦
      let d = element no_kept in
      let e : n + 1 ≡ suc n = add-one n in
      let own : IfErr (says symbols (get_or es n d)) IsElementFault = own_says symbols (get_or es n d) in
      subst (λ (k : ℕ). Judged symbols es (take k es)) e (judged_next symbols es n d fine.0 (says symbols (get_or es n d)) (omega arith) fine.1 refl own)
]

judged : (symbols : List Symbol) (es : List Element) → Judged symbols es es
judged symbols es =
    let n = length es in
    let all : take n es ≡ es = take_all n es (omega arith) in
    subst (Judged symbols es) all (judged_front symbols es n (omega arith))

-- ---- bytes

-- a front of the bytes begins a file, or the bytes are none
abbrev Read : List ℕ → ℕ → Type 0
Read b n = ((s : State) × (run (Some start) (take n b) ≡ Some s)) ⊎ ((at : ℕ) × IsNoFile b at)

read_next : (b : List ℕ) (n : ℕ) (s : State) (x : Option State) → n < length b → run (Some start) (take n b) ≡ Some s → step s (get_or b n 0) ≡ x → Read b (n + 1)
read_next b n s (Some t) inside e next = inl (t, front_more b n s (Some t) inside e next)
read_next b n s None inside e next = inr (n, stops_within b n s inside e (front_more b n s None inside e next))

read_front : (b : List ℕ) (n : ℕ) → n ≤ length b → Read b n
read_front b zero h = inl (start, refl)
read_front b (suc n) h = elim (read_front b n (omega arith)) [
  | inr none ↦ inr none
  | inl front ↦ subst (Read b) (add-one n) (read_next b n front.0 (step front.0 (get_or b n 0)) (omega arith) front.1 refl)
]

-- bytes are a file, or they are none
read : (b : List ℕ) → ((es : List Element) × IsFile b es) ⊎ ((at : ℕ) × IsNoFile b at)
read b = elim (read_front b (length b) (omega arith)) [
  | inr none ↦ inr none
  | inl front ↦
      let all : take (length b) b ≡ b = take_all (length b) b (omega arith) in
      ended front.0 (is_whole front.0) (subst (λ (x : List ℕ). run (Some start) x ≡ Some front.0) all front.1) refl
]
  where
    ended : (s : State) (whole : Bool) → run (Some start) b ≡ Some s → is_whole s ≡ whole → ((es : List Element) × IsFile b es) ⊎ ((at : ℕ) × IsNoFile b at)
    ended s true e whole = inl (s.elements, record { state = s; read = e; whole = whole; has = refl })
    ended s false e whole = inr (length b, stops_at_end b s e whole)

-- bytes state facts, or a cause stands
pub due : StatedOrRefused
due b symbols = elim (read b) [
  | inr none ↦ inr (Syntax none.0, none.1)
  | inl file ↦ elim (judged symbols file.0) [
    | inl fine ↦ inl (
      facts_said fine.0,
      record {
        all = fine.0;
        fine = record { elements = file.0; file = file.1; fine = fine.1 };
        stated = stated fine.0 fine.1.once;
      },
    )
    | inr fault ↦ inr (fault.0, fault.1 b (record { elements = file.0; file = file.1; first = fault.2 }))
  ]
]
