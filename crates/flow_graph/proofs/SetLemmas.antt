-- Ascending lists of addresses as sets.
use Rattle.std.proofs.Common.{◌≡◌, ℕ, zero, suc, ◌<◌, ◌≤◌, ◌+◌, ◌-◌, Bool, true, false, List, [], ◌∷◌, ◌++◌, length, Contains, All, arith, sym, refl, ◌∙◌, inl, inr, ◌⊎◌, subst, append_assoc, option_to_list, if◌then◌else◌, ◌==◌}
use Rattle.std.proofs.lemmas.List.Edits.{length-insert, get_or-insert_below, get_or-insert_at, get_or-insert_above}
use Rattle.std.proofs.lemmas.List.Elements.{Contains-append_left, Contains-append_right, Contains-append_cases, All-tail}
use Rattle.std.proofs.lemmas.List.Sorted.{Contains-permutation, IsPermutation-sym, IsPermutation-insert}
use Rattle.std.specs.List.{HoldsAt, insert}
use Rattle.std.specs.declared.cmp.Ordering.{Ordering}
use Rattle.std.specs.List.Sorted.{IsNonDecreasingBy, IsPartitionPoint}
use Rattle.std.specs.Ordering.{nat_cmp, ordering_index}
use Rattle.std.specs.declared.cmp.Ordering.TheVariants.{Less, Equal, Greater}
use Rattle.std.specs.Prelude.{slice_index_or}
use Rattle.wx_base.specs.declared.facts.Facts.{Facts}
use Rattle.wx_base.specs.declared.facts.TargetFact.{TargetFact}
use Rattle.wx_base.specs.declared.flow.FlowKind.{FlowKind}
use Rattle.wx_base.specs.Bits.{add_words}
use Rattle.wx_base.specs.Facts.{AreAscending, TargetsAscend, targets_of}
use Rattle.wx_base.specs.Ways.{ways_by}
use Rattle.flow_graph.specs.Reached.{IsSetOf}
use Rattle.flow_graph.proofs.Comparisons.{equal_is, less_is, greater_is, rises}

-- an ascending list is the set of its elements
pub set_itself : (xs : List ℕ) → AreAscending xs → IsSetOf xs xs
set_itself xs up = record { ascending = up; sound = λ a h. h; whole = λ a h. h }

-- a list that ascends rises by each comparison with a number
pub searchable : (xs : List ℕ) (x : ℕ) → AreAscending xs → IsNonDecreasingBy (λ y. ordering_index (nat_cmp y x)) xs
searchable xs x up i j d le h = by (nat_cmp i j) refl
  where
    by : (o : _) → nat_cmp i j ≡ o → ordering_index (nat_cmp (slice_index_or xs i d) x) ≤ ordering_index (nat_cmp (slice_index_or xs j d) x)
    by Less e = let lower : slice_index_or xs i d < slice_index_or xs j d = up i j d (less_is i j e) h in rises _ _ x (omega arith)
    by Equal e = rw (equal_is i j e) (omega arith)
    by Greater e = absurd (let lt : j < i = greater_is i j e in omega arith)

-- an element that is there already
pub set_again : (xs : List ℕ) (x i : ℕ) → AreAscending xs → i < length xs → HoldsAt (λ y. nat_cmp y x ≡ Equal) xs i → IsSetOf (x ∷ xs) xs
set_again xs x i up h is = record {
  ascending = up;
  sound = λ a c. Contains-append_right (x ∷ []) xs a c;
  whole = λ a c. among a (Contains-append_cases (x ∷ []) xs a c);
}
  where
    only : (a : ℕ) → Contains (x ∷ []) a → a ≡ x
    only a (zero, l, e) = sym e
    only a (suc k, l, e) = absurd (omega arith)

    among : (a : ℕ) → Contains (x ∷ []) a ⊎ Contains xs a → Contains xs a
    among a (inl c) = (i, h, equal_is _ _ (is a) ∙ sym (only a c))
    among a (inr c) = c

-- what is put between those below and those above
module _ (xs : List ℕ) (x at : ℕ) (up : AreAscending xs) (within : at ≤ length xs)
    (low : (k d : ℕ) → k < at → slice_index_or xs k d < x) (high : (k d : ℕ) → at ≤ k → k < length xs → x < slice_index_or xs k d) where
  -- what stands at a place once it is put there
  data Placed (k d : ℕ) : Type 0 where
    before : k < at → slice_index_or (insert xs at x) k d ≡ slice_index_or xs k d → Placed k d
    here : k ≡ at → slice_index_or (insert xs at x) k d ≡ x → Placed k d
    after : at < k → slice_index_or (insert xs at x) k d ≡ slice_index_or xs (k - 1) d → Placed k d

  placed : (k d : ℕ) → Placed k d
  placed k d = by (nat_cmp k at) refl
    where
      by : (o : Ordering) → nat_cmp k at ≡ o → Placed k d
      by Less e = before (less_is k at e) (get_or-insert_below xs at x d k (less_is k at e) within)
      by Equal e = here (equal_is k at e) (rw (equal_is k at e) (get_or-insert_at xs at x d within))
      by Greater e =
          let lt : at < k = greater_is k at e in
          let back : (k - 1) + 1 ≡ k = omega arith in
          after lt (subst (λ j. slice_index_or (insert xs at x) j d ≡ slice_index_or xs (k - 1) d) back (get_or-insert_above xs at x d (k - 1) (omega arith) within))

  ascends : AreAscending (insert xs at x)
  ascends i j d lt h = by (let l = length-insert xs at x within in omega arith) (placed i d) (placed j d)
    where
      by : j < length xs + 1 → Placed i d → Placed j d → slice_index_or (insert xs at x) i d < slice_index_or (insert xs at x) j d
      by short (before a e) (before b f) = rw (e, f) (up i j d lt (omega arith))
      by short (before a e) (here b f) = rw (e, f) (low i d a)
      by short (before a e) (after b f) = let p : slice_index_or xs i d < x = low i d a in let q : x < slice_index_or xs (j - 1) d = high (j - 1) d (omega arith) (omega arith) in rw (e, f) (omega arith)
      by short (here a e) (before b f) = absurd (omega arith)
      by short (here a e) (here b f) = absurd (omega arith)
      by short (here a e) (after b f) = rw (e, f) (high (j - 1) d (omega arith) (omega arith))
      by short (after a e) (before b f) = absurd (omega arith)
      by short (after a e) (here b f) = absurd (omega arith)
      by short (after a e) (after b f) = rw (e, f) (up (i - 1) (j - 1) d (omega arith) (omega arith))

  set_put : IsSetOf (x ∷ xs) (insert xs at x)
  set_put = record {
    ascending = ascends;
    sound = λ a c. Contains-permutation (insert xs at x) (x ∷ xs) a (IsPermutation-sym _ _ (IsPermutation-insert xs at x)) c;
    whole = λ a c. Contains-permutation (x ∷ xs) (insert xs at x) a (IsPermutation-insert xs at x) c;
  }

pub set_added : (xs : List ℕ) (x at : ℕ) → AreAscending xs → at ≤ length xs
    → (IsNonDecreasingBy (λ y. ordering_index (nat_cmp y x)) xs → IsPartitionPoint (λ y. nat_cmp y x ≡ Less) (λ y. nat_cmp y x ≡ Greater) xs at)
    → IsSetOf (x ∷ xs) (insert xs at x)
set_added xs x at up within split =
    let parts = split (searchable xs x up) in
    set_put xs x at up within (λ k d h. less_is _ _ (parts.0 k d (omega arith) h)) (λ k d a h. greater_is _ _ (parts.1 k d a h))

-- a set of a set with more elements
pub set_of_both : (front back middle ways : List ℕ) → IsSetOf back middle → IsSetOf (front ++ middle) ways → IsSetOf (front ++ back) ways
set_of_both front back middle ways inner outer = record {
  ascending = outer.ascending;
  sound = λ a c. down a (Contains-append_cases front middle a (outer.sound a c));
  whole = λ a c. outer.whole a (up a (Contains-append_cases front back a c));
}
  where
    down : (a : ℕ) → Contains front a ⊎ Contains middle a → Contains (front ++ back) a
    down a (inl c) = Contains-append_left front back a c
    down a (inr c) = Contains-append_right front back a (inner.sound a c)

    up : (a : ℕ) → Contains front a ⊎ Contains back a → Contains (front ++ middle) a
    up a (inl c) = Contains-append_left front middle a c
    up a (inr c) = Contains-append_right front middle a (inner.whole a c)

-- the targets that the facts list ascend
pub targets_ascend : (facts : List TargetFact) (address : ℕ) → All (λ f. AreAscending f.targets) facts → AreAscending (targets_of facts address)
targets_ascend [] address each = λ i j d lt h. absurd (omega arith)
targets_ascend (f ∷ facts) address each = by (f.address == address) refl (targets_ascend facts address (All-tail (λ f. AreAscending f.targets) f facts each))
  where
    by : (here : Bool) → (f.address == address) ≡ here → AreAscending (targets_of facts address) → AreAscending (targets_of (f ∷ facts) address)
    by true e rest = rw e (each 0 f (omega arith))
    by false e rest = rw e rest

pub listed_ascend : (facts : List TargetFact) (address : ℕ) (indirect : Bool) → TargetsAscend facts
    → AreAscending (if indirect then targets_of facts address else [])
listed_ascend facts address true up = targets_ascend facts address up.targets
listed_ascend facts address false up = λ i j d lt h. absurd (omega arith)

-- the ways of an instruction, put together from behind
pub ways_joined : (facts : Facts) (address : ℕ) (flow : FlowKind) {jumps ways : List ℕ}
    → IsSetOf ((if flow.next then add_words address 4 ∷ [] else []) ++ jumps) ways
    → IsSetOf (option_to_list flow.jump ++ (if flow.indirect then targets_of facts.branches address else [])) jumps
    → IsSetOf (ways_by facts address flow) ways
ways_joined facts address flow {jumps} {ways} outer inner =
    subst (λ l. IsSetOf l ways) (sym (append_assoc (if flow.next then add_words address 4 ∷ [] else []) (option_to_list flow.jump) (if flow.indirect then targets_of facts.branches address else [])))
    (set_of_both (if flow.next then add_words address 4 ∷ [] else []) _ jumps ways inner outer)
