-- Bytes have one reading: they are fine, or one cause stands.
use Rattle.std.proofs.Common.{◌≡◌, ℕ, ◌<◌, ◌≤◌, false, List, [], ◌∷◌, length, get_or, take, map, Some, None, Ok, Err, refl, sym, ap, subst, ◌∙◌, arith, inl, inr}
use Rattle.std.specs.Prelude.{Result, All, IfErr, IfOk, IsErrAnd, slice_get, ◌⊎◌}
use Rattle.wx_base.specs.declared.facts.Facts.{Facts}
use Rattle.std.specs.List.{list_any, IsDistinct}
use Rattle.std.proofs.lemmas.Bool.{cases_lt}
use Rattle.std.proofs.lemmas.List.{take_all, take-take, length-map, length-take-le, get_or-map, get_or-take, get_or_default, take-map}
use Rattle.std.proofs.lemmas.Option.{slice_get_within}
use Rattle.std.proofs.lemmas.List.Folds.{list_any_none}
use Rattle.std.proofs.lemmas.Option.{get_or_from_slice_get, slice_get-get_or}
use Rattle.wx_base.specs.declared.symbol.Symbol.{Symbol}
use Rattle.ffx_facts.specs.declared.error.FactsError.{FactsError}
use Rattle.ffx_facts.specs.declared.error.FactsError.TheVariants.{NoMemory, Syntax, Number, NoAddress, NoSymbol, Twice}
use Rattle.ffx_facts.specs.declared.kind.Kind.TheVariants.{FlowFacts}
use Rattle.ffx_facts.specs.declared.says.Says.{Says}
use Rattle.ffx_facts.specs.Machine.{Element}
use Rattle.ffx_facts.specs.Values.{says}
use Rattle.ffx_facts.specs.File.{IsFile, IsLongestFront, IsNoFile}
use Rattle.ffx_facts.specs.Faults.{AreFine, IsFirstFault, fault_behind, is_same_fact}
use Rattle.ffx_facts.specs.Causes.{AreFactsOf, HasFault, IsCause, IsFine}
use Rattle.ffx_facts.proofs.Judged.{same_fact_flips}
use Rattle.ffx_facts.proofs.Ordered.{distinct_at}

-- a file has its elements and no others
pub one_reading : (b : List ℕ) (es fs : List Element) → IsFile b es → IsFile b fs → es ≡ fs
one_reading b es fs e f =
    let same : Some e.state ≡ Some f.state = sym e.read ∙ f.read in
    let one : e.state ≡ f.state = cc in
    sym e.has ∙ ap (λ s. s.elements) one ∙ f.has

-- a longest front is the only one
one_front : (b : List ℕ) (i j : ℕ) → IsLongestFront b i → IsLongestFront b j → i ≡ j
one_front b i j f g = by (cases_lt i j) (cases_lt j i)
  where
    by : (i < j) ⊎ (j ≤ i) → (j < i) ⊎ (i ≤ j) → i ≡ j
    by (inl h) k = absurd (f.longest j h g.within g.begins)
    by (inr h) (inl k) = absurd (g.longest i k f.within f.begins)
    by (inr h) (inr k) = omega arith

abbrev pub as_ok : Says → Result Says FactsError
as_ok s = Ok s

-- answers that are one say one thing
pub oks_same : (xs ys : List Says) → map as_ok xs ≡ map as_ok ys → xs ≡ ys
oks_same [] [] h = refl
oks_same [] (y ∷ ys) h = cc
oks_same (x ∷ xs) [] h = cc
oks_same (x ∷ xs) (y ∷ ys) h =
    let rest : map as_ok xs ≡ map as_ok ys = cc in
    let first : x ≡ y = cc in
    let more = oks_same xs ys rest in
    cc

-- what was said of a front of the elements is the front of what was said
front_said : (symbols : List Symbol) (es : List Element) (all before : List Says) (i : ℕ) → AreFine symbols es all → AreFine symbols (take i es) before → before ≡ take i all
front_said symbols es all before i fine front =
    oks_same before (take i all) (sym front.say ∙ sym (take-map (says symbols) i es) ∙ ap (take i) fine.say ∙ take-map as_ok i all)

abbrev nothing_said : Says
nothing_said = record { kind = FlowFacts; address = 0; bounds = None }

-- a fact repeats none before it
new_fact : (all : List Says) (i : ℕ) → IsDistinct is_same_fact all → i < length all → list_any (is_same_fact (get_or all i nothing_said)) (take i all) ≡ false
new_fact all i d h = list_any_none (is_same_fact (get_or all i nothing_said)) (take i all) each
  where
    each : All (λ s. is_same_fact (get_or all i nothing_said) s ≡ false) (take i all)
    each k e inside =
        let n : length (take i all) ≡ i = length-take-le i all (omega arith) in
        let k_in : k < i = omega arith in
        let here : get_or (take i all) k e ≡ get_or all k e = get_or-take i all k e k_in in
        let there : get_or all i nothing_said ≡ get_or all i e = get_or_default all i nothing_said e h in
        rw here (same_fact_flips (get_or all i nothing_said) (get_or all k e) ∙ ap (λ (s : Says). is_same_fact (get_or all k e) s) there ∙ distinct_at is_same_fact all k i e d k_in h)

-- an element of a front is that of the whole
slice_get_take : (es : List Element) (n i : ℕ) (x : Element) → i < n → slice_get es i ≡ Some x → slice_get (take n es) i ≡ Some x
slice_get_take es n i x h e =
    let inside : i < length es = slice_get_within es i x e in
    let short : i < length (take n es) = by (cases_lt n (length es)) inside in
    slice_get-get_or (take n es) i x short ∙ ap (λ (y : Element). Some y) (get_or-take n es i x h ∙ get_or_from_slice_get es i x x e)
  where
    by : (n < length es) ⊎ (length es ≤ n) → i < length es → i < length (take n es)
    by (inl k) inside = let m = length-take-le n es (omega arith) in omega arith
    by (inr k) inside = let m = ap length (take_all n es k) in omega arith

-- where elements are fine, none of them is at fault
never_at_fault : (symbols : List Symbol) (es : List Element) (all : List Says) (fault : FactsError) → AreFine symbols es all → IsFirstFault symbols es fault → ⊥
never_at_fault symbols es all fault fine w =
    let d = w.element in
    let at : get_or es w.at d ≡ w.element = get_or_from_slice_get es w.at w.element d w.is in
    let inside : w.at < length es = slice_get_within es w.at w.element w.is in
    let n : length all ≡ length es = sym (length-map all as_ok) ∙ sym (ap length fine.say) ∙ length-map es (says symbols) in
    let said : says symbols w.element ≡ Ok (get_or all w.at nothing_said) =
    ap (says symbols) (sym at) ∙ sym (get_or-map (says symbols) es w.at d (Ok nothing_said) inside) ∙ ap (λ (xs : List (Result Says FactsError)). get_or xs w.at (Ok nothing_said)) fine.say
    ∙ get_or-map as_ok all w.at nothing_said (Ok nothing_said) (omega arith) in
    let before : w.before ≡ take w.at all = front_said symbols es all w.before w.at fine w.fine in
    let new : list_any (is_same_fact (get_or all w.at nothing_said)) w.before ≡ false = rw before (new_fact all w.at fine.once (omega arith)) in
    let none : fault_behind w.before (Ok (get_or all w.at nothing_said)) ≡ None = rw new refl in
    let no : None ≡ Some fault = sym none ∙ sym (ap (fault_behind w.before) said) ∙ w.wrong in
    cc

-- the first fault is the only one
one_fault : (symbols : List Symbol) (es : List Element) (a b : FactsError) → IsFirstFault symbols es a → IsFirstFault symbols es b → a ≡ b
one_fault symbols es a b v w = by (cases_lt v.at w.at) (cases_lt w.at v.at)
  where
    earlier : (a b : FactsError) (v : IsFirstFault symbols es a) (w : IsFirstFault symbols es b) → v.at < w.at → ⊥
    earlier a b v w h = never_at_fault symbols (take w.at es) w.before a w.fine (record {
      at = v.at;
      before = v.before;
      fine = subst (λ (xs : List Element). AreFine symbols xs v.before) (sym (take-take v.at w.at es (omega arith))) v.fine;
      element = v.element;
      is = slice_get_take es w.at v.at v.element h v.is;
      wrong = v.wrong;
    })

    by : (v.at < w.at) ⊎ (w.at ≤ v.at) → (w.at < v.at) ⊎ (v.at ≤ w.at) → a ≡ b
    by (inl h) k = absurd (earlier a b v w h)
    by (inr h) (inl k) = absurd (earlier b a w v k)
    by (inr h) (inr k) =
        let at : v.at ≡ w.at = omega arith in
        let fine : AreFine symbols (take w.at es) v.before = subst (λ (n : ℕ). AreFine symbols (take n es) v.before) at v.fine in
        let before : v.before ≡ w.before = oks_same v.before w.before (sym fine.say ∙ w.fine.say) in
        let found : Some v.element ≡ Some w.element = sym v.is ∙ ap (slice_get es) at ∙ w.is in
        let element : v.element ≡ w.element = cc in
        let found_fault : Some a ≡ Some b = sym v.wrong ∙ ap (λ (xs : List Says). fault_behind xs (says symbols v.element)) before ∙ ap (λ (e : Element). fault_behind w.before (says symbols e)) element ∙ w.wrong in
        cc

-- what is fine has no cause
pub no_cause : (b : List ℕ) (symbols : List Symbol) (all : List Says) (cause : FactsError) → IsFine b symbols all → IsCause b symbols cause → ⊥
no_cause b symbols all cause fine = by cause
  where
    fault : (f : FactsError) → HasFault b symbols f → ⊥
    fault f h = never_at_fault symbols h.elements all f (subst (λ (es : List Element). AreFine symbols es all) (one_reading b fine.elements h.elements fine.file h.file) fine.fine) h.first

    by : (cause : FactsError) → IsCause b symbols cause → ⊥
    by NoMemory h = h
    by (Syntax at) h = h.none fine.elements fine.file
    by (Number at) h = fault _ h
    by (NoAddress at) h = fault _ h
    by (NoSymbol at) h = fault _ h
    by (Twice address) h = fault _ h

-- a cause by what it is
data Shape (b : List ℕ) (symbols : List Symbol) (f : FactsError) : Type 0 where
  is_syntax : (at : ℕ) → f ≡ Syntax at → IsNoFile b at → Shape b symbols f
  is_fault : HasFault b symbols f → Shape b symbols f

shape : (b : List ℕ) (symbols : List Symbol) (f : FactsError) → IsCause b symbols f → Shape b symbols f
shape b symbols NoMemory h = absurd h
shape b symbols (Syntax at) h = is_syntax at refl h
shape b symbols (Number at) h = is_fault h
shape b symbols (NoAddress at) h = is_fault h
shape b symbols (NoSymbol at) h = is_fault h
shape b symbols (Twice address) h = is_fault h

-- a cause is the only one
pub one_cause : (b : List ℕ) (symbols : List Symbol) (e f : FactsError) → IsCause b symbols e → IsCause b symbols f → e ≡ f
one_cause b symbols e f h k = by (shape b symbols e h) (shape b symbols f k)
  where
    by : Shape b symbols e → Shape b symbols f → e ≡ f
    by (is_syntax i p v) (is_syntax j q w) = p ∙ ap Syntax (one_front b i j v.front w.front) ∙ sym q
    by (is_syntax i p v) (is_fault w) = absurd (v.none w.elements w.file)
    by (is_fault v) (is_syntax j q w) = absurd (w.none v.elements v.file)
    by (is_fault v) (is_fault w) =
        one_fault symbols w.elements e f (subst (λ (es : List Element). IsFirstFault symbols es e) (one_reading b v.elements w.elements v.file w.file) v.first) w.first

-- what is fine is read
pub fine_is_read : (b : List ℕ) (symbols : List Symbol) (r : Result Facts FactsError) → IfErr r (λ e. (e ≡ NoMemory) ⊎ IsCause b symbols e) → (all : List Says) → IsFine b symbols all → IfErr r (λ e. e ≡ NoMemory)
fine_is_read b symbols (Ok facts) refused all fine = tt
fine_is_read b symbols (Err e) (inl none) all fine = none
fine_is_read b symbols (Err e) (inr cause) all fine = absurd (no_cause b symbols all e fine cause)

-- what has a cause is refused so
pub cause_is_given : (b : List ℕ) (symbols : List Symbol) (r : Result Facts FactsError) → IfOk r (AreFactsOf b symbols) → IfErr r (λ e. (e ≡ NoMemory) ⊎ IsCause b symbols e)
    → (cause : FactsError) → IsCause b symbols cause → IsErrAnd r (λ e. (e ≡ NoMemory) ⊎ (e ≡ cause))
cause_is_given b symbols (Ok facts) accepted refused cause h = absurd (no_cause b symbols accepted.all cause accepted.fine h)
cause_is_given b symbols (Err e) accepted (inl none) cause h = inl none
cause_is_given b symbols (Err e) accepted (inr k) cause h = inr (one_cause b symbols e cause k h)
