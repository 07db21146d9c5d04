-- What fine elements say is stated by some facts: each list can be put in the order of addresses.
use Rattle.std.proofs.Common.{◌≡◌, ℕ, zero, suc, ◌<◌, ◌≤◌, Bool, true, false, cond, ltb, List, [], ◌∷◌, length, get_or, refl, ap, ◌∙◌, arith, inl, inr, Ordering, Less, Equal, Greater}
use Rattle.std.specs.Prelude.{◌⊎◌}
use Rattle.std.specs.BTreeSet.{insert_key}
use Rattle.std.specs.List.{AllByRecursion, IsDistinct}
use Rattle.std.specs.List.Sorted.{IsNonDecreasingBy, IsPermutation, IsStrictlySortedBy}
use Rattle.std.specs.Ordering.{match_ordering, nat_cmp, ordering_reverse}
use Rattle.std.proofs.lemmas.Bool.Decides.{nat_tests}
use Rattle.std.proofs.lemmas.Cmp.{nat_cmp_total}
use Rattle.std.proofs.lemmas.List.Elements.{All-from_recursion}
use Rattle.std.proofs.lemmas.List.Sorted.{IsPermutation-cons, IsPermutation-middle, IsPermutation-refl, IsPermutation-trans}
use Rattle.wx_base.specs.declared.facts.Facts.{Facts}
use Rattle.wx_base.specs.declared.facts.TargetFact.{TargetFact}
use Rattle.wx_base.specs.Facts.{AreAscending, TargetsAscend}
use Rattle.ffx_facts.specs.declared.kind.Kind.{Kind}
use Rattle.ffx_facts.specs.declared.kind.Kind.TheVariants.{MultiBranch, MultiCall}
use Rattle.ffx_facts.specs.declared.says.Says.{Says}
use Rattle.ffx_facts.specs.Pieces.{is_same_kind}
use Rattle.ffx_facts.specs.Faults.{is_same_fact}
use Rattle.ffx_facts.specs.Order.{AreFacts, leading_targets, loop_facts, put_all, target_facts}
use Rattle.ffx_facts.proofs.Ordered.{always_states, keys_ascend, loops_ascend, targets_ascend}

-- ---- a list in the order of a number of its elements

module _ {X : Type 0} (key : X → ℕ) where
  -- an element, put before the first that is not below it
  put : X → List X → List X
  put x [] = x ∷ []
  put x (y ∷ ys) = cond (ltb (key y) (key x)) (y ∷ put x ys) (x ∷ y ∷ ys)

  pub in_order : List X → List X
  in_order [] = []
  in_order (x ∷ xs) = put x (in_order xs)

  put_permutes : (x : X) (xs : List X) → IsPermutation (x ∷ xs) (put x xs)
  unfolding put
  put_permutes x [] = IsPermutation-refl (x ∷ [])
  put_permutes x (y ∷ ys) = by (ltb (key y) (key x)) (put_permutes x ys)
    where
      by : (b : Bool) → IsPermutation (x ∷ ys) (put x ys) → IsPermutation (x ∷ y ∷ ys) (cond b (y ∷ put x ys) (x ∷ y ∷ ys))
      by true later = IsPermutation-trans (x ∷ y ∷ ys) (y ∷ x ∷ ys) (y ∷ put x ys) (IsPermutation-middle (x ∷ []) y ys) (IsPermutation-cons y (x ∷ ys) (put x ys) later)
      by false later = IsPermutation-refl (x ∷ y ∷ ys)

  pub order_permutes : (xs : List X) → IsPermutation xs (in_order xs)
  unfolding in_order
  order_permutes [] = IsPermutation-refl []
  order_permutes (x ∷ xs) =
      IsPermutation-trans (x ∷ xs) (x ∷ in_order xs) (put x (in_order xs)) (IsPermutation-cons x xs (in_order xs) (order_permutes xs)) (put_permutes x (in_order xs))

  -- the number is at least n
  abbrev AllFrom : ℕ → List X → Type 0
  AllFrom n xs = AllByRecursion (λ x. n ≤ key x) xs

  abbrev Rises : List X → Type 0
  Rises [] = Unit {0}
  Rises (x ∷ xs) = AllFrom (key x) xs × Rises xs

  lower : (n m : ℕ) (xs : List X) → n ≤ m → AllFrom m xs → AllFrom n xs
  lower n m [] h a = tt
  lower n m (x ∷ xs) h a = let first = a.0 in (omega arith, lower n m xs h a.1)

  put_from : (n : ℕ) (x : X) (xs : List X) → n ≤ key x → AllFrom n xs → AllFrom n (put x xs)
  unfolding put
  put_from n x [] h a = (h, tt)
  put_from n x (y ∷ ys) h a = by (ltb (key y) (key x)) (put_from n x ys h a.1)
    where
      by : (b : Bool) → AllFrom n (put x ys) → AllFrom n (cond b (y ∷ put x ys) (x ∷ y ∷ ys))
      by true later = (a.0, later)
      by false later = (h, a)

  put_rises : (x : X) (xs : List X) → Rises xs → Rises (put x xs)
  unfolding put
  put_rises x [] up = (tt, tt)
  put_rises x (y ∷ ys) up = by (ltb (key y) (key x)) refl (put_rises x ys up.1)
    where
      by : (b : Bool) → ltb (key y) (key x) ≡ b → Rises (put x ys) → Rises (cond b (y ∷ put x ys) (x ∷ y ∷ ys))
      by true e later = let below : key y ≤ key x = grind (arith, nat_tests) in (put_from (key y) x ys below up.0, later)
      by false e later = let below : key x ≤ key y = grind (arith, nat_tests) in ((below, lower (key x) (key y) ys below up.0), up)

  order_rises_by : (xs : List X) → Rises (in_order xs)
  unfolding in_order
  order_rises_by [] = tt
  order_rises_by (x ∷ xs) = put_rises x (in_order xs) (order_rises_by xs)

  at_least : (n : ℕ) (xs : List X) (j : ℕ) (d : X) → AllFrom n xs → j < length xs → n ≤ key (get_or xs j d)
  at_least n [] j d a h = absurd (omega arith)
  at_least n (x ∷ xs) zero d a h = a.0
  at_least n (x ∷ xs) (suc j) d a h = at_least n xs j d a.1 (omega arith)

  does_not_fall : (xs : List X) → Rises xs → (i j : ℕ) (d : X) → i ≤ j → j < length xs → key (get_or xs i d) ≤ key (get_or xs j d)
  does_not_fall [] up i j d h1 h2 = absurd (omega arith)
  does_not_fall (x ∷ xs) up zero zero d h1 h2 = omega arith
  does_not_fall (x ∷ xs) up zero (suc j) d h1 h2 = at_least (key x) xs j d up.0 (omega arith)
  does_not_fall (x ∷ xs) up (suc i) zero d h1 h2 = absurd (omega arith)
  does_not_fall (x ∷ xs) up (suc i) (suc j) d h1 h2 = does_not_fall xs up.1 i j d (omega arith) (omega arith)

  pub order_rises : (xs : List X) → IsNonDecreasingBy key (in_order xs)
  order_rises xs = λ i j d h1 h2. does_not_fall (in_order xs) (order_rises_by xs) i j d h1 h2

-- ---- the targets of a jump or a call

above_all : (k x : ℕ) (xs : List ℕ) → nat_cmp k x ≡ Less → AllByRecursion (λ y. nat_cmp x y ≡ Less) xs → AllByRecursion (λ y. nat_cmp k y ≡ Less) xs
above_all k x [] h a = tt
above_all k x (y ∷ ys) h a = (nat_cmp_total.trans k x y h a.0, above_all k x ys h a.1)

key_above : (x k : ℕ) (xs : List ℕ) → nat_cmp x k ≡ Less → AllByRecursion (λ y. nat_cmp x y ≡ Less) xs → AllByRecursion (λ y. nat_cmp x y ≡ Less) (insert_key nat_cmp xs k)
key_above x k [] h a = (h, tt)
key_above x k (y ∷ ys) h a = by (nat_cmp k y) (key_above x k ys h a.1)
  where
    by : (o : Ordering) → AllByRecursion (λ z. nat_cmp x z ≡ Less) (insert_key nat_cmp ys k) → AllByRecursion (λ z. nat_cmp x z ≡ Less) (match_ordering o (k ∷ y ∷ ys) (y ∷ ys) (y ∷ insert_key nat_cmp ys k))
    by Less later = (h, a)
    by Equal later = a
    by Greater later = (a.0, later)

-- one key more keeps the order
key_sorted : (k : ℕ) (xs : List ℕ) → IsStrictlySortedBy nat_cmp xs → IsStrictlySortedBy nat_cmp (insert_key nat_cmp xs k)
unfolding IsStrictlySortedBy
key_sorted k [] s = (tt, tt)
key_sorted k (x ∷ xs) s = by (nat_cmp k x) refl (key_sorted k xs s.1)
  where
    by : (o : Ordering) → nat_cmp k x ≡ o → IsStrictlySortedBy nat_cmp (insert_key nat_cmp xs k) → IsStrictlySortedBy nat_cmp (match_ordering o (k ∷ x ∷ xs) (x ∷ xs) (x ∷ insert_key nat_cmp xs k))
    by Less e later = ((e, above_all k x xs e s.0), s)
    by Equal e later = s
    by Greater e later = (key_above x k xs (nat_cmp_total.antisymm x k ∙ ap ordering_reverse e) s.0, later)

all_sorted : (keys addresses : List ℕ) → IsStrictlySortedBy nat_cmp keys → IsStrictlySortedBy nat_cmp (put_all keys addresses)
all_sorted keys [] s = s
all_sorted keys (a ∷ addresses) s = all_sorted (insert_key nat_cmp keys a) addresses (key_sorted a keys s)

none_sorted : IsStrictlySortedBy nat_cmp []
unfolding IsStrictlySortedBy
none_sorted = tt

put_ascend : (addresses : List ℕ) → AreAscending (put_all [] addresses)
put_ascend addresses = keys_ascend (put_all [] addresses) (all_sorted [] addresses none_sorted)

each_targets : (kind : Kind) (all : List Says) → AllByRecursion (λ f. AreAscending f.targets) (target_facts kind all)
each_targets kind [] = tt
each_targets kind (s ∷ all) = by (is_same_kind s.kind kind) (each_targets kind all)
  where
    by : (b : Bool) → AllByRecursion (λ f. AreAscending f.targets) (target_facts kind all)
        → AllByRecursion (λ f. AreAscending f.targets) (cond b (record { address = s.address; targets = put_all [] (leading_targets all) } ∷ target_facts kind all) (target_facts kind all))
    by true later = (put_ascend (leading_targets all), later)
    by false later = later

-- ---- the facts

-- the facts that elements state
abbrev pub facts_said : List Says → Facts
facts_said all = record {
  loops = in_order (λ f. f.address) (loop_facts all);
  branches = in_order (λ f. f.address) (target_facts MultiBranch all);
  calls = in_order (λ f. f.address) (target_facts MultiCall all);
}

targets_up : (kind : Kind) (all : List Says) → (kind ≡ MultiBranch) ⊎ (kind ≡ MultiCall) → IsDistinct is_same_fact all → TargetsAscend (in_order (λ f. f.address) (target_facts kind all))
targets_up kind all is once =
    let facts = target_facts kind all in
    targets_ascend kind all facts (in_order (λ f. f.address) facts) (always_states kind is) once refl
    (All-from_recursion (λ (f : TargetFact). AreAscending f.targets) facts (each_targets kind all)) (order_permutes (λ f. f.address) facts) (order_rises (λ f. f.address) facts)

pub stated : (all : List Says) → IsDistinct is_same_fact all → AreFacts all (facts_said all)
stated all once = record {
  loops = order_permutes (λ f. f.address) (loop_facts all);
  branches = order_permutes (λ f. f.address) (target_facts MultiBranch all);
  calls = order_permutes (λ f. f.address) (target_facts MultiCall all);
  ascend = record {
    loops = loops_ascend all (loop_facts all) (in_order (λ f. f.address) (loop_facts all)) once refl (order_permutes (λ f. f.address) (loop_facts all)) (order_rises (λ f. f.address) (loop_facts all));
    branches = targets_up MultiBranch all (inl refl) once;
    calls = targets_up MultiCall all (inr refl) once;
  };
}
