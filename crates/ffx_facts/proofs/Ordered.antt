-- Facts in the order of addresses.
use Rattle.std.proofs.Common.{◌≡◌, ℕ, zero, suc, ◌+◌, ◌<◌, ◌≤◌, Bool, true, false, List, [], ◌∷◌, ◌++◌, length, get_or, take, drop, map, Some, None, refl, sym, ap, subst, ◌∙◌, arith, inl, inr, eq-eqb, ◌-◌}
use Rattle.std.specs.Prelude.{Option, All, AllPairs, ◌==◌, ◌⊎◌}
use Rattle.std.specs.List.{AllByRecursion, IsDistinct}
use Rattle.std.specs.List.Sorted.{IsNonDecreasingBy, IsPermutation, IsStrictlyIncreasing, IsStrictlySortedBy}
use Rattle.std.specs.Ordering.{nat_cmp}
use Rattle.std.proofs.lemmas.Bool.{cases_lt, false≢true}
use Rattle.std.proofs.lemmas.List.{append_assoc, append-nil, drop_all, get_or_default, length-drop, length-take-le, take_all}
use Rattle.std.specs.BTreeSet.{insert_key}
use Rattle.std.proofs.lemmas.List.Sorted.{All-permutation}
use Rattle.std.proofs.lemmas.Map.Keys.{IsDistinct-IsPermutation, IsStrictlyIncreasing-from_sorted}
use Rattle.std.proofs.Math.Seq.{drop-cons}
use Rattle.wx_base.specs.declared.facts.LoopFact.{LoopFact}
use Rattle.wx_base.specs.declared.facts.TargetFact.{TargetFact}
use Rattle.wx_base.specs.Facts.{AreAscending, LoopsAscend, TargetsAscend}
use Rattle.ffx_facts.specs.declared.kind.Kind.{Kind}
use Rattle.ffx_facts.specs.declared.kind.Kind.TheVariants.{FlowFacts, Function, Loop, MultiBranch, MultiCall, Target}
use Rattle.ffx_facts.specs.declared.says.Bounds.{Bounds}
use Rattle.ffx_facts.specs.declared.says.Says.{Says}
use Rattle.ffx_facts.specs.Pieces.{is_same_kind}
use Rattle.ffx_facts.specs.Faults.{is_same_fact, states}
use Rattle.ffx_facts.specs.Order.{leading_targets, loop_fact, loop_facts, put_all, target_facts}
use Rattle.ffx_facts.proofs.Judged.{equal_flips}

-- ---- numbers that ascend

rises : (xs : List ℕ) → IsStrictlyIncreasing xs → (n i : ℕ) → i + n + 1 < length xs → get_or xs i 0 < get_or xs (i + n + 1) 0
rises xs h zero i inside = let s = h i (omega arith) in let e : i + zero + 1 ≡ i + 1 = omega arith in rw e s
rises xs h (suc n) i inside =
    let w = rises xs h n i (omega arith) in
    let s = h (i + n + 1) (omega arith) in
    let e : i + suc n + 1 ≡ i + n + 1 + 1 = omega arith in
    rw e (omega (arith, w, s))

-- the keys of a set of numbers ascend
pub keys_ascend : (xs : List ℕ) → IsStrictlySortedBy nat_cmp xs → AreAscending xs
keys_ascend xs sorted = λ i j d h1 h2. at i j d h1 h2 (rises xs (IsStrictlyIncreasing-from_sorted xs sorted))
  where
    at : (i j d : ℕ) → i < j → j < length xs → ((n i : ℕ) → i + n + 1 < length xs → get_or xs i 0 < get_or xs (i + n + 1) 0) → get_or xs i d < get_or xs j d
    at i j d h1 h2 up =
        let e : i + (j - i - 1) + 1 ≡ j = omega arith in
        let w : get_or xs i 0 < get_or xs j 0 = subst (λ (k : ℕ). get_or xs i 0 < get_or xs k 0) e (up (j - i - 1) i (omega arith)) in
        rw (get_or_default xs i d 0 (omega arith), get_or_default xs j d 0 h2) w

-- ---- facts at different addresses

module _ {X : Type 0} (e : X → X → Bool) where
  other_at : (x : X) (xs : List X) (j : ℕ) (d : X) → AllByRecursion (λ y. e x y ≡ false) xs → j < length xs → e x (get_or xs j d) ≡ false
  other_at x [] j d a h = absurd (omega arith)
  other_at x (y ∷ xs) zero d a h = a.0
  other_at x (y ∷ xs) (suc j) d a h = other_at x xs j d a.1 (omega arith)

  pub distinct_at : (xs : List X) (i j : ℕ) (d : X) → IsDistinct e xs → i < j → j < length xs → e (get_or xs i d) (get_or xs j d) ≡ false
  unfolding IsDistinct
  distinct_at [] i j d h1 h2 h3 = absurd (omega arith)
  distinct_at (x ∷ xs) zero zero d h1 h2 h3 = absurd (omega arith)
  distinct_at (x ∷ xs) zero (suc j) d h1 h2 h3 = other_at x xs j d h1.0 (omega arith)
  distinct_at (x ∷ xs) (suc i) zero d h1 h2 h3 = absurd (omega arith)
  distinct_at (x ∷ xs) (suc i) (suc j) d h1 h2 h3 = distinct_at xs i j d h1.1 (omega arith) (omega arith)

-- what does not fall and is distinct rises
pub strictly : {X : Type 0} (key : X → ℕ) (xs : List X) → IsNonDecreasingBy key xs → IsDistinct (λ f g. key f == key g) xs → AllPairs (λ f g. key f < key g) xs
strictly {X} key xs up apart = λ i j d h1 h2.
    let le = up i j d (omega arith) h2 in
    let ne = distinct_at (λ (f : X) (g : X). key f == key g) xs i j d apart h1 h2 in
    below (key (get_or xs i d)) (key (get_or xs j d)) le ne
  where
    below : (a b : ℕ) → a ≤ b → (a == b) ≡ false → a < b
    below a b h ne = elim (cases_lt a b) [ inl lt ↦ lt | inr ge ↦ absurd (false≢true (sym ne ∙ eq-eqb a b (omega arith))) ]

-- ---- loops

other_loops_of : (a : ℕ) (n : Bounds) (kind : Kind) (b : ℕ) (m : Option Bounds) (fs : List LoopFact) → is_same_fact (record { kind = Loop; address = a; bounds = Some n }) (record { kind = kind; address = b; bounds = m }) ≡ false
    → AllByRecursion (λ f. (a == f.address) ≡ false) fs → AllByRecursion (λ f. (a == f.address) ≡ false) (loop_fact kind b m ++ fs)
other_loops_of a n Loop b (Some m) fs h rest = (equal_flips a b ∙ h, rest)
other_loops_of a n Loop b None fs h rest = rest
other_loops_of a n FlowFacts b m fs h rest = rest
other_loops_of a n Function b m fs h rest = rest
other_loops_of a n MultiBranch b m fs h rest = rest
other_loops_of a n MultiCall b m fs h rest = rest
other_loops_of a n Target b m fs h rest = rest

other_loops : (a : ℕ) (n : Bounds) (all : List Says) → AllByRecursion (λ t. is_same_fact (record { kind = Loop; address = a; bounds = Some n }) t ≡ false) all → AllByRecursion (λ f. (a == f.address) ≡ false) (loop_facts all)
other_loops a n [] h = tt
other_loops a n (t ∷ all) h = other_loops_of a n t.kind t.address t.bounds (loop_facts all) h.0 (other_loops a n all h.1)

abbrev pub SameLoop : LoopFact → LoopFact → Bool
SameLoop f g = f.address == g.address

distinct_loops_of : (kind : Kind) (a : ℕ) (n : Option Bounds) (all : List Says) → AllByRecursion (λ t. is_same_fact (record { kind = kind; address = a; bounds = n }) t ≡ false) all
    → IsDistinct SameLoop (loop_facts all) → IsDistinct SameLoop (loop_fact kind a n ++ loop_facts all)
unfolding IsDistinct
distinct_loops_of Loop a (Some n) all h rest = (other_loops a n all h, rest)
distinct_loops_of Loop a None all h rest = rest
distinct_loops_of FlowFacts a n all h rest = rest
distinct_loops_of Function a n all h rest = rest
distinct_loops_of MultiBranch a n all h rest = rest
distinct_loops_of MultiCall a n all h rest = rest
distinct_loops_of Target a n all h rest = rest

-- facts on loops that do not repeat one another are at different addresses
pub distinct_loops : (all : List Says) → IsDistinct is_same_fact all → IsDistinct SameLoop (loop_facts all)
unfolding IsDistinct
distinct_loops [] d = tt
distinct_loops (s ∷ all) d = distinct_loops_of s.kind s.address s.bounds all d.0 (distinct_loops all d.1)

-- ---- jumps and calls

same_kind_is : (a b : Kind) → is_same_kind a b ≡ true → a ≡ b
same_kind_is FlowFacts FlowFacts h = refl
same_kind_is Function Function h = refl
same_kind_is Loop Loop h = refl
same_kind_is MultiBranch MultiBranch h = refl
same_kind_is MultiCall MultiCall h = refl
same_kind_is Target Target h = refl
same_kind_is _ _ h = cc

-- elements of the kind always state a fact
pub record AlwaysStates (kind : Kind) : Type 0 where
  pub states_fact : (bounds : Option Bounds) → states kind bounds ≡ true
  pub itself : is_same_kind kind kind ≡ true

pub always_states : (kind : Kind) → (kind ≡ MultiBranch) ⊎ (kind ≡ MultiCall) → AlwaysStates kind
always_states kind (inl e) = subst AlwaysStates (sym e) (record { states_fact = λ _. refl; itself = refl })
always_states kind (inr e) = subst AlwaysStates (sym e) (record { states_fact = λ _. refl; itself = refl })

abbrev pub SameTarget : TargetFact → TargetFact → Bool
SameTarget f g = f.address == g.address

-- two elements of such a kind that are not the same fact are at different addresses
apart_by : (kind : Kind) → AlwaysStates kind → (s t : Says) → s.kind ≡ kind → t.kind ≡ kind → is_same_fact s t ≡ false → (s.address == t.address) ≡ false
apart_by kind always s t es et h =
    let one : states s.kind s.bounds ≡ true = ap (λ (k : Kind). states k s.bounds) es ∙ always.states_fact s.bounds in
    let two : states t.kind t.bounds ≡ true = ap (λ (k : Kind). states k t.bounds) et ∙ always.states_fact t.bounds in
    let both : is_same_kind t.kind s.kind ≡ true = ap (λ (k : Kind). is_same_kind k s.kind) et ∙ ap (is_same_kind kind) es ∙ always.itself in
    equal_flips s.address t.address ∙ (rw (one, two, both) at h)

other_targets : (kind : Kind) → AlwaysStates kind → (s : Says) → s.kind ≡ kind → (all : List Says) → AllByRecursion (λ t. is_same_fact s t ≡ false) all
    → AllByRecursion (λ f. (s.address == f.address) ≡ false) (target_facts kind all)
other_targets kind always s e [] h = tt
other_targets kind always s e (t ∷ all) h = by (is_same_kind t.kind kind) refl (other_targets kind always s e all h.1)
  where
    by : (b : Bool) → is_same_kind t.kind kind ≡ b → AllByRecursion (λ f. (s.address == f.address) ≡ false) (target_facts kind all)
        → AllByRecursion (λ f. (s.address == f.address) ≡ false) (target_facts kind (t ∷ all))
    by true k rest = rw k (apart_by kind always s t e (same_kind_is t.kind kind k) h.0, rest)
    by false k rest = rw k rest

-- facts on jumps, or on calls, that do not repeat one another are at different addresses
pub distinct_targets : (kind : Kind) → AlwaysStates kind → (all : List Says) → IsDistinct is_same_fact all → IsDistinct SameTarget (target_facts kind all)
unfolding IsDistinct
distinct_targets kind always [] d = tt
distinct_targets kind always (s ∷ all) d = by (is_same_kind s.kind kind) refl (distinct_targets kind always all d.1)
  where
    by : (b : Bool) → is_same_kind s.kind kind ≡ b → IsDistinct SameTarget (target_facts kind all) → IsDistinct SameTarget (target_facts kind (s ∷ all))
    by true k rest = rw k (other_targets kind always s (same_kind_is s.kind kind k) all d.0, rest)
    by false k rest = rw k rest

-- ---- steps of the loops

-- as many elements as were taken
pub take_taken : {X : Type 0} (n : ℕ) (xs : List X) → take (length (take n xs)) xs ≡ take n xs
take_taken {X} n xs = by (cases_lt n (length xs))
  where
    by : (n < length xs) ⊎ (length xs ≤ n) → take (length (take n xs)) xs ≡ take n xs
    by (inl h) = ap (λ (k : ℕ). take k xs) (length-take-le n xs (omega arith))
    by (inr h) = let all : take n xs ≡ xs = take_all n xs h in ap (λ (ys : List X). take (length ys) xs) all ∙ take_all (length xs) xs (omega arith) ∙ sym all

pub next_of : {X : Type 0} (xs : List X) (i : ℕ) (d : X) → i < length xs → drop i xs ≡ get_or xs i d ∷ drop (i + 1) xs
next_of {X} xs i d h = let n : suc i ≡ i + 1 = omega arith in drop-cons xs i d h ∙ ap (λ (k : ℕ). get_or xs i d ∷ drop k xs) n

-- one address more is put into the others
pub put_next : (keys : List ℕ) (all : List Says) (i : ℕ) (d : Says) → i < length all → put_all (insert_key nat_cmp keys (get_or all i d).address) (map (λ s. s.address) (drop (i + 1) all)) ≡ put_all keys (map (λ s. s.address) (drop i all))
put_next keys all i d h = sym (ap (λ (xs : List Says). put_all keys (map (λ (s : Says). s.address) xs)) (next_of all i d h))

-- the fact of an element of the kind
pub target_next : (kind : Kind) (all : List Says) (i : ℕ) (d : Says) (facts : List TargetFact) → i < length all → is_same_kind (get_or all i d).kind kind ≡ true
    → (facts ++ record { address = (get_or all i d).address; targets = put_all [] (leading_targets (drop (i + 1) all)) } ∷ []) ++ target_facts kind (drop (i + 1) all) ≡ facts ++ target_facts kind (drop i all)
target_next kind all i d facts h e =
    let f : TargetFact = record { address = (get_or all i d).address; targets = put_all [] (leading_targets (drop (i + 1) all)) } in
    let here : target_facts kind (drop i all) ≡ f ∷ target_facts kind (drop (i + 1) all) = ap (target_facts kind) (next_of all i d h) ∙ (rw e refl) in
    append_assoc facts (f ∷ []) (target_facts kind (drop (i + 1) all)) ∙ ap (λ (xs : List TargetFact). facts ++ xs) (sym here)

-- an element of another kind
pub target_skipped : (kind : Kind) (all : List Says) (i : ℕ) (d : Says) → i < length all → is_same_kind (get_or all i d).kind kind ≡ false → target_facts kind (drop (i + 1) all) ≡ target_facts kind (drop i all)
target_skipped kind all i d h e = sym (ap (target_facts kind) (next_of all i d h) ∙ (rw e refl))

pub same_loop_flips : (f g : LoopFact) → SameLoop f g ≡ SameLoop g f
same_loop_flips f g = equal_flips f.address g.address

pub same_target_flips : (f g : TargetFact) → SameTarget f g ≡ SameTarget g f
same_target_flips f g = equal_flips f.address g.address

-- facts in the order of addresses, from facts at different addresses
pub loops_ascend : (all : List Says) (facts sorted : List LoopFact) → IsDistinct is_same_fact all → facts ≡ loop_facts all → IsPermutation facts sorted → IsNonDecreasingBy (λ f. f.address) sorted → LoopsAscend sorted
loops_ascend all facts sorted once e perm up =
    strictly (λ f. f.address) sorted up (IsDistinct-IsPermutation SameLoop same_loop_flips facts sorted perm (subst (IsDistinct SameLoop) (sym e) (distinct_loops all once)))

pub targets_ascend : (kind : Kind) (all : List Says) (facts sorted : List TargetFact) → AlwaysStates kind → IsDistinct is_same_fact all → facts ≡ target_facts kind all → All (λ f. AreAscending f.targets) facts
    → IsPermutation facts sorted → IsNonDecreasingBy (λ f. f.address) sorted → TargetsAscend sorted
targets_ascend kind all facts sorted always once e each perm up = record {
  addresses = strictly (λ f. f.address) sorted up (IsDistinct-IsPermutation SameTarget same_target_flips facts sorted perm (subst (IsDistinct SameTarget) (sym e) (distinct_targets kind always all once)));
  targets = All-permutation (λ f. AreAscending f.targets) facts sorted perm each;
}

-- nothing is left behind the last element
pub nothing_left : {X : Type 0} (f : List Says → List X) (facts : List X) (all : List Says) (i : ℕ) → length all ≤ i → f [] ≡ [] → facts ++ f (drop i all) ≡ f all → facts ≡ f all
nothing_left f facts all i h e left =
    sym (append-nil facts) ∙ ap (λ xs. facts ++ xs) (sym e) ∙ ap (λ xs. facts ++ f xs) (sym (drop_all i all h)) ∙ left

-- a slice to the end
pub slice_to_end : {X : Type 0} (xs : List X) (i : ℕ) → take (length xs - i) (drop i xs) ≡ drop i xs
slice_to_end xs i = let n = length-drop i xs in take_all (length xs - i) (drop i xs) (omega arith)
