-- What is there before the first round.
use Rattle.std.proofs.Common.{◌≡◌, ℕ, zero, suc, ◌+◌, ◌<◌, ◌≤◌, Bool, true, false, List, [], ◌∷◌, ◌++◌, length, slice_get, Some, None, refl, sym, ap, subst, ◌∙◌, inl, inr, arith, ◌==◌, if◌then◌else◌}
use Rattle.std.specs.List.{Contains}
use Rattle.std.specs.List.Sorted.{IsStrictlySortedBy}
use Rattle.std.specs.Ordering.{nat_cmp}
use Rattle.std.specs.Cmp.Lexicographic.{slice_cmp}
use Rattle.std.proofs.lemmas.Bool.{cases_lt}
use Rattle.std.proofs.lemmas.List.{get_or_past, length_push}
use Rattle.std.proofs.lemmas.List.Elements.{All-get_or, All-replicate}
use Rattle.std.proofs.lemmas.Option.{same_Some, slice_get_within}
use Rattle.wx_base.specs.Recurrence.{slot}
use Rattle.wx_base.specs.Vector.{slot_count, zero_slots}
use Rattle.state_families.specs.declared.node_set.NodeSet.{NodeSet}
use Rattle.state_families.specs.Families.{AreFirst}
use Rattle.state_families.specs.Families.AreAfterRounds.{first}
use Rattle.state_families.specs.Fresh.{AreFirstFresh, AreReached, IsBounded, IsSet}
use Rattle.state_families.proofs.SettlingLemmas.{only_one}

zero_at : (k : ℕ) → slot zero_slots k ≡ 0
zero_at k = elim (cases_lt k slot_count) [
  | inl l ↦ All-get_or (λ n. n ≡ 0) zero_slots k 0 l (All-replicate (λ n. n ≡ 0) slot_count 0 refl)
  | inr g ↦ get_or_past zero_slots k 0 g
]

zero_bounded : (bound : ℕ) → IsBounded bound zero_slots
zero_bounded bound = record { long = refl; within = record { each = λ k. omega (arith, zero_at k) } }

one_ascends : IsStrictlySortedBy (slice_cmp nat_cmp) (zero_slots ∷ [])
unfolding IsStrictlySortedBy
one_ascends = (tt, tt)

none_ascends : IsStrictlySortedBy (slice_cmp nat_cmp) []
unfolding IsStrictlySortedBy
none_ascends = tt

abbrev pub at_first : Bool → List (List ℕ)
at_first b = if b then zero_slots ∷ [] else []

pub at_first_bounded : (bound : ℕ) (b : Bool) (v : List ℕ) → Contains (at_first b) v → IsBounded bound v
at_first_bounded bound true v c = subst (IsBounded bound) (only_one zero_slots v c) (zero_bounded bound)
at_first_bounded bound false v c = absurd (omega (arith, c.1))

first_set : (states bound : ℕ) (b : Bool) → 1 ≤ states → IsSet states bound (record { vectors = at_first b; kept = None })
first_set states bound true some = record {
  fit = record { ascending = one_ascends; few = some };
  bounded = at_first_bounded bound true;
}
first_set states bound false some = record {
  fit = record { ascending = none_ascends; few = omega arith };
  bounded = at_first_bounded bound false;
}

pub reached_first : (Exits : ℕ → ℕ → List ℕ → List ℕ → Type 0) (states bound count start : ℕ) (sets : List NodeSet) (fresh : List (List (List ℕ))) → 1 ≤ states
    → AreFirst count start sets → AreFirstFresh count start fresh → AreReached Exits states bound count start sets fresh
reached_first Exits states bound count start sets fresh some s f = record {
  rounds = first sets s;
  long = s.long;
  fresh_long = f.long;
  sound = λ node set at.
      let l : node < count = omega (arith, slice_get_within sets node set at, s.long) in
      subst (IsSet states bound) (same_Some (record { vectors = at_first (node == start); kept = None }) set (sym (s.each node l) ∙ at)) (first_set states bound (node == start) some);
  listed = λ node slots w.
      let l : node < count = omega (arith, slice_get_within fresh node w.list w.stands, f.long) in
      let same : w.list ≡ at_first (node == start) = same_Some w.list (at_first (node == start)) (sym w.stands ∙ f.each node l) in
      record {
        set = record { vectors = at_first (node == start); kept = None };
        stands = s.each node l;
        listed = subst (λ (xs : List (List ℕ)). Contains xs slots) same w.listed;
      };
  closed = λ from to source slots w e.
      let l : from < count = omega (arith, slice_get_within sets from w.set w.stands, s.long) in
      let same : w.set ≡ record { vectors = at_first (from == start); kept = None } =
      same_Some w.set (record { vectors = at_first (from == start); kept = None }) (sym w.stands ∙ s.each from l) in
      inl (record {
        list = at_first (from == start);
        stands = f.each from l;
        listed = subst (λ (x : NodeSet). Contains x.vectors source) same w.listed;
      });
}

-- ---- lists that are made element by element
slice_here : {X : Type 0} (xs : List X) (x : X) (n : ℕ) → n ≡ length xs → slice_get (xs ++ x ∷ []) n ≡ Some x
slice_here [] x n is = ap (λ (k : ℕ). slice_get (x ∷ []) k) is
slice_here (y ∷ ys) x zero is = absurd (omega (arith, is))
slice_here (y ∷ ys) x (suc n) is = slice_here ys x n (omega (arith, is))

slice_before : {X : Type 0} (xs : List X) (x : X) (n : ℕ) → n < length xs → slice_get (xs ++ x ∷ []) n ≡ slice_get xs n
slice_before [] x n l = absurd (omega (arith, l))
slice_before (y ∷ ys) x zero l = refl
slice_before (y ∷ ys) x (suc n) l = slice_before ys x n (omega (arith, l))

each_more : {X : Type 0} (f : ℕ → X) (xs more : List X) (count : ℕ) (x : X) → length xs ≡ count → ((n : ℕ) → n < count → slice_get xs n ≡ Some (f n)) → more ≡ xs ++ x ∷ [] → x ≡ f count
    → (n : ℕ) → n < count + 1 → slice_get more n ≡ Some (f n)
each_more {X} f xs more count x long so_far is made n l = ap (λ (ys : List X). slice_get ys n) is ∙ elim (cases_lt n count) [
  | inl less ↦ slice_before xs x n (omega (arith, less, long)) ∙ so_far n less
  | inr most ↦
      let here : n ≡ count = omega (arith, l, most) in
      slice_here xs x n (omega (arith, here, long)) ∙ ap Some (made ∙ ap f (sym here))
]

long_more : {X : Type 0} (xs more : List X) (count : ℕ) (x : X) → length xs ≡ count → more ≡ xs ++ x ∷ [] → length more ≡ count + 1
long_more {X} xs more count x long is = ap (λ (ys : List X). length ys) is ∙ length_push xs x ∙ ap (λ (n : ℕ). n + 1) long

module _ (start : ℕ) where
  pub first_none : (sets : List NodeSet) → sets ≡ [] → AreFirst 0 start sets
  first_none sets none = record { long = ap (λ (xs : List NodeSet). length xs) none; each = λ node l. absurd (omega (arith, l)) }

  pub first_more : (sets more : List NodeSet) (count : ℕ) (vectors : List (List ℕ)) → AreFirst count start sets → vectors ≡ at_first (count == start)
      → more ≡ sets ++ record { vectors = vectors; kept = None } ∷ [] → AreFirst (count + 1) start more
  first_more sets more count vectors s made is =
      let set : NodeSet = record { vectors = vectors; kept = None } in
      record {
        long = long_more sets more count set s.long is;
        each = each_more (λ node. record { vectors = at_first (node == start); kept = None }) sets more count set s.long s.each is
            (ap (λ (xs : List (List ℕ)). record { vectors = xs; kept = None }) made);
      }

  pub fresh_none : (fresh : List (List (List ℕ))) → fresh ≡ [] → AreFirstFresh 0 start fresh
  fresh_none fresh none = record { long = ap (λ (xs : List (List (List ℕ))). length xs) none; each = λ node l. absurd (omega (arith, l)) }

  pub fresh_more : (fresh more : List (List (List ℕ))) (count : ℕ) (vectors : List (List ℕ)) → AreFirstFresh count start fresh → vectors ≡ at_first (count == start)
      → more ≡ fresh ++ vectors ∷ [] → AreFirstFresh (count + 1) start more
  fresh_more fresh more count vectors s made is = record {
    long = long_more fresh more count vectors s.long is;
    each = each_more (λ node. at_first (node == start)) fresh more count vectors s.long s.each is made;
  }
