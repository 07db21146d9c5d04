-- States that rise along moves.
use Rattle.std.proofs.Common.{◌≡◌, ℕ, zero, suc, ◌+◌, ◌<◌, ◌≤◌, Bool, true, false, ◌==◌, List, [], ◌∷◌, ◌++◌, length, get_or, set, take, Some, ◌⊎◌, inl, inr, refl, sym, ap, subst, ◌∙◌, arith}
use Rattle.std.proofs.lemmas.List.{length-set, length-append, take_more, take_all}
use Rattle.std.proofs.lemmas.Bool.{cases_Bool, eq-eqb, eqb-true, true≢false}
use Rattle.std.proofs.lemmas.List.Elements.{All-get_or, Contains-append_cases}
use Rattle.std.proofs.lemmas.Option.{same_Some, slice_get_within}
use Rattle.std.specs.List.{All, slice_get, sum_by, Contains}
use Rattle.cache_ages.specs.Bounds.{is_one_of}
use Rattle.wx_base.specs.declared.machine.Shape.{Shape}
use Rattle.cache_flow.specs.declared.flow.Flow.{Flow}
use Rattle.cache_flow.specs.declared.flow.Move.{Move}
use Rattle.cache_flow.specs.Flows.{accesses_of}
use Rattle.cache_solve.specs.Systems.{along, FollowsEach, AreBelow, AreSettled, AreRaised, AreFirst, IsBehind, IsFirst, IsLeast, IsOf, AreAlike}
use Rattle.cache_solve.proofs.Lists.{set_cases, set_itself, set_lowers}

pub along_push : {V : Type 0} (access : V → ℕ → V) (v : V) (xs : List ℕ) (x : ℕ) → along access v (xs ++ x ∷ []) ≡ access (along access v xs) x
along_push access v [] x = refl
along_push access v (y ∷ xs) x = along_push access (access v y) xs x

along_more : {V : Type 0} (access : V → ℕ → V) (v : V) (xs : List ℕ) (i : ℕ) → i < length xs
    → along access v (take (i + 1) xs) ≡ access (along access v (take i xs)) (get_or xs i 0)
along_more access v xs i h = ap (along access v) (take_more xs i 0 h) ∙ along_push access v (take i xs) (get_or xs i 0)

-- a state behind the first so many accesses
pub record BehindSoFar {S V : Type 0} (Covers : V → V → Type 0) (IsIn : V → Type 0) (access : V → ℕ → V) (known : S → V) (accesses : List ℕ) (i : ℕ) (before after : S) : Type 0 where
  pub within : IsIn (along access (known before) (take i accesses))
  pub behind : IsBehind Covers access known (take i accesses) before after

module _ {S V : Type 0} (Covers : V → V → Type 0) (IsIn : V → Type 0) (access : V → ℕ → V) (known : S → V) where
  pub behind_none : ((x : V) → Covers x x) → (accesses : List ℕ) (before after : S) → IsIn (known before) → after ≡ before
      → BehindSoFar Covers IsIn access known accesses 0 before after
  behind_none same accesses before after within e = record {
    within = within;
    behind = record {
      covers = rw e (same (known before));
      least = λ other h. rw e h;
    };
  }

  pub behind_more : ((x y z : V) → Covers x y → Covers y z → Covers x z)
      → (accesses : List ℕ) (i line : ℕ) (before cur new : S)
      → ((x : V) → IsIn x → IsIn (access x line))
      → ((x y : V) → IsIn y → Covers x y → Covers (access x line) (access y line))
      → i < length accesses → get_or accesses i 0 ≡ line
      → IsIn (known cur) → Covers (known new) (access (known cur) line) → Covers (access (known cur) line) (known new)
      → BehindSoFar Covers IsIn access known accesses i before cur
      → BehindSoFar Covers IsIn access known accesses (i + 1) before new
  behind_more joins accesses i line before cur new stays keeps h e inside up down so = record {
    within = rw (along_more access (known before) accesses i h, e) (stays (along access (known before) (take i accesses)) so.within);
    behind = record {
      covers = rw (along_more access (known before) accesses i h, e)
          (joins (known new) (access (known cur) line) (access (along access (known before) (take i accesses)) line) up
          (keeps (known cur) (along access (known before) (take i accesses)) so.within so.behind.covers));
      least = λ other over. rw (along_more access other accesses i h, e)
          (joins (access (along access other (take i accesses)) line) (access (known cur) line) (known new)
          (keeps (along access other (take i accesses)) (known cur) inside (so.behind.least other over)) down);
    };
  }

  pub behind_all : (accesses : List ℕ) (i : ℕ) (before after : S) → length accesses ≤ i → BehindSoFar Covers IsIn access known accesses i before after
      → IsBehind Covers access known accesses before after
  behind_all accesses i before after h so =
      subst (λ (xs : List ℕ). IsBehind Covers access known xs before after) (take_all i accesses h) so.behind

one_contained : {X : Type 0} (x y : X) → Contains (x ∷ []) y → x ≡ y
one_contained x y c = one c.0 c.1 c.2
  where
    one : (k : ℕ) → k < 1 → get_or (x ∷ []) k y ≡ y → x ≡ y
    one k h e = let z : k ≡ 0 = omega arith in rw z at e

module _ {S V : Type 0} (Covers : V → V → Type 0) (access : V → ℕ → V) (known : S → V) (flow : Flow) (same : (x : V) → Covers x x)
    (joins : (x y z : V) → Covers x y → Covers y z → Covers x z) where
  -- one state is replaced by one that covers it and what another becomes
  pub raised_at : (states : List S) (step : Move) (from to passed new : S)
      → slice_get states step.from ≡ Some from → slice_get states step.to ≡ Some to
      → IsBehind Covers access known (accesses_of flow step.from) from passed
      → Covers (known new) (known to)
      → ((joint : V) → Covers joint (known to) → Covers joint (known passed) → Covers joint (known new))
      → AreRaised Covers access known flow (step ∷ []) states (set states step.to new)
  raised_at states step from to passed new f t behind grown least = record {
    long = length-set states step.to new;
    grown = λ number before after b a. elim (set_cases states step.to number new after (slice_get_within states step.to to t) a) [
      | inl p ↦ let e : to ≡ before = same_Some to before (sym t ∙ ap (slice_get states) (sym p.0) ∙ b) in
          subst (λ (x : S). Covers (known x) (known before)) p.1 (subst (λ (x : S). Covers (known new) (known x)) e grown)
      | inr q ↦ let e : before ≡ after = same_Some before after (sym b ∙ q) in
          subst (λ (x : S). Covers (known x) (known before)) e (same (known before))
    ];
    least = λ others follows below. record {
      each = λ number state is. elim (set_cases states step.to number new state (slice_get_within states step.to to t) is) [
        | inl p ↦
            let over : Covers (others step.to) (known passed) = joins (others step.to) (along access (others step.from) (accesses_of flow step.from)) (known passed)
            (follows.each step (0, omega arith, refl)) (behind.least (others step.from) (below.each step.from from f)) in
            let all : Covers (others step.to) (known new) = least (others step.to) (below.each step.to to t) over in
            subst (λ (x : S). Covers (others number) (known x)) p.1 (subst (λ (n : ℕ). Covers (others n) (known new)) (sym p.0) all)
        | inr q ↦ below.each number state q
      ];
    };
  }

  -- where nothing changed, the move is followed
  pub settled_at : (states : List S) (step : Move) (from to passed : S)
      → slice_get states step.from ≡ Some from → slice_get states step.to ≡ Some to
      → IsBehind Covers access known (accesses_of flow step.from) from passed → Covers (known to) (known passed)
      → AreSettled Covers access known flow (step ∷ []) states
  settled_at states step from to passed f t behind covers = record {
    each = λ move source target one s e.
        let is : step ≡ move = one_contained step move one in
        let sources : from ≡ source = same_Some from source (sym f ∙ ap (λ (m : Move). slice_get states m.from) is ∙ s) in
        let targets : to ≡ target = same_Some to target (sym t ∙ ap (λ (m : Move). slice_get states m.to) is ∙ e) in
        let low : Covers (known to) (along access (known from) (accesses_of flow step.from)) =
        joins (known to) (known passed) (along access (known from) (accesses_of flow step.from)) covers behind.covers in
        subst (λ (m : Move). Covers (known target) (along access (known source) (accesses_of flow m.from))) is
        (subst (λ (x : S). Covers (known target) (along access (known x) (accesses_of flow step.from))) sources
        (subst (λ (x : S). Covers (known x) (along access (known from) (accesses_of flow step.from))) targets low));
  }

  pub raised_none : (moves : List Move) (states : List S) → AreRaised Covers access known flow moves states states
  raised_none moves states = record {
    long = refl;
    grown = λ number before after b a. let e : before ≡ after = same_Some before after (sym b ∙ a) in
        subst (λ (x : S). Covers (known x) (known before)) e (same (known before));
    least = λ others follows below. below;
  }

  -- one after the other
  pub raised_twice : (moves some : List Move) (old mid new : List S) → ((m : Move) → Contains some m → Contains moves m)
      → AreRaised Covers access known flow moves old mid → AreRaised Covers access known flow some mid new
      → AreRaised Covers access known flow moves old new
  raised_twice moves some old mid new among one two = record {
    long = two.long ∙ one.long;
    grown = λ number before after b a.
        let inside : number < length mid = omega (arith, slice_get_within old number before b, one.long) in
        let between = slice_get-here mid number inside in
        joins (known after) (known between.0) (known before) (two.grown number between.0 after between.1 a) (one.grown number before between.0 b between.1);
    least = λ others follows below.
        two.least others (record { each = λ m c. follows.each m (among m c) }) (one.least others follows below);
  }
    where
      slice_get-here : (xs : List S) (n : ℕ) → n < length xs → (x : S) × (slice_get xs n ≡ Some x)
      slice_get-here [] n h = absurd (omega arith)
      slice_get-here (x ∷ xs) zero h = (x, refl)
      slice_get-here (x ∷ xs) (suc n) h = slice_get-here xs n (omega arith)

-- a state behind the first so many accesses, of the same cache and lines
pub record PassedSoFar {S V : Type 0} (known : S → V) (shape_of : S → Shape) (lines_of : S → List ℕ) (IsWithin : Shape → List ℕ → V → Type 0)
    (Covers : List ℕ → V → V → Type 0) (accessed : Shape → V → ℕ → V) (accesses : List ℕ) (i : ℕ) (before after : S) : Type 0 where
  pub of_shape : shape_of after ≡ shape_of before
  pub of_lines : lines_of after ≡ lines_of before
  pub within : IsWithin (shape_of before) (lines_of before) (known after)
  pub so : BehindSoFar (Covers (lines_of before)) (IsWithin (shape_of before) (lines_of before)) (accessed (shape_of before)) known accesses i before after

-- a sweep so far
pub record SweptSoFar {S V : Type 0} (Covers : V → V → Type 0) (access : V → ℕ → V) (known : S → V) (left : S → ℕ) (IsIt : S → Type 0) (flow : Flow) (moves : List Move)
    (i : ℕ) (changed : Bool) (old new : List S) : Type 0 where
  pub alike : AreAlike IsIt new
  pub raised : AreRaised Covers access known flow moves old new
  pub falls : changed ≡ true → sum_by left new < sum_by left old
  pub stands : changed ≡ false → new ≡ old
  pub settled : changed ≡ false → AreSettled Covers access known flow (take i moves) new

-- sweeps so far
pub record RisenSoFar {S V : Type 0} (Covers : V → V → Type 0) (access : V → ℕ → V) (known : S → V) (IsIt : S → Type 0) (flow : Flow) (moves : List Move)
    (old new : List S) : Type 0 where
  pub alike : AreAlike IsIt new
  pub raised : AreRaised Covers access known flow moves old new

-- states of the first so many nodes
pub record FirstSoFar {S : Type 0} (Are : List S → Type 0) (i : ℕ) (states : List S) : Type 0 where
  pub long : length states ≡ i
  pub each : Are states

module _ {S V : Type 0} (known : S → V) (shape_of : S → Shape) (lines_of : S → List ℕ) (IsWithin : Shape → List ℕ → V → Type 0)
    (Covers : List ℕ → V → V → Type 0) (accessed : Shape → V → ℕ → V) (joins : (lines : List ℕ) (x y z : V) → Covers lines x y → Covers lines y z → Covers lines x z)
    (stays : (shape : Shape) (lines : List ℕ) (x : V) (line : ℕ) → is_one_of lines line ≡ true → IsWithin shape lines x → IsWithin shape lines (accessed shape x line))
    (keeps : (shape : Shape) (lines : List ℕ) (x y : V) (line : ℕ) → is_one_of lines line ≡ true → IsWithin shape lines y → Covers lines x y → Covers lines (accessed shape x line) (accessed shape y line)) where
  pub passed_more : (accesses : List ℕ) (i : ℕ) (before cur new : S) → All (λ line. is_one_of (lines_of before) line ≡ true) accesses → i < length accesses
      → shape_of new ≡ shape_of cur → lines_of new ≡ lines_of cur → IsWithin (shape_of cur) (lines_of cur) (known new)
      → Covers (lines_of cur) (known new) (accessed (shape_of cur) (known cur) (get_or accesses i 0))
      → Covers (lines_of cur) (accessed (shape_of cur) (known cur) (get_or accesses i 0)) (known new)
      → PassedSoFar known shape_of lines_of IsWithin Covers accessed accesses i before cur
      → PassedSoFar known shape_of lines_of IsWithin Covers accessed accesses (i + 1) before new
  passed_more accesses i before cur new all h sh ls inside up down so =
      let line = get_or accesses i 0 in
      let one : is_one_of (lines_of before) line ≡ true = All-get_or (λ n. is_one_of (lines_of before) n ≡ true) accesses i 0 h all in
      let inside1 = subst (λ (l : List ℕ). IsWithin (shape_of before) l (known new)) so.of_lines (subst (λ (s : Shape). IsWithin s (lines_of cur) (known new)) so.of_shape inside) in
      let up1 = subst (λ (l : List ℕ). Covers l (known new) (accessed (shape_of before) (known cur) line)) so.of_lines
      (subst (λ (s : Shape). Covers (lines_of cur) (known new) (accessed s (known cur) line)) so.of_shape up) in
      let down1 = subst (λ (l : List ℕ). Covers l (accessed (shape_of before) (known cur) line) (known new)) so.of_lines
      (subst (λ (s : Shape). Covers (lines_of cur) (accessed s (known cur) line) (known new)) so.of_shape down) in
      record {
        of_shape = sh ∙ so.of_shape;
        of_lines = ls ∙ so.of_lines;
        within = inside1;
        so = behind_more (Covers (lines_of before)) (IsWithin (shape_of before) (lines_of before)) (accessed (shape_of before)) known (joins (lines_of before)) accesses i line before cur new
            (λ x. stays (shape_of before) (lines_of before) x line one) (λ x y. keeps (shape_of before) (lines_of before) x y line one) h refl so.within up1 down1 so.so;
      }

  pub behind_as : (sh sh' : Shape) (ls ls' xs xs' : List ℕ) (a b : S) → sh ≡ sh' → ls ≡ ls' → xs ≡ xs' → IsBehind (Covers ls) (accessed sh) known xs a b
      → IsBehind (Covers ls') (accessed sh') known xs' a b
  behind_as sh sh' ls ls' xs xs' a b p q r h =
      subst (λ (s : Shape). IsBehind (Covers ls') (accessed s) known xs' a b) p
      (subst (λ (l : List ℕ). IsBehind (Covers l) (accessed sh) known xs' a b) q
      (subst (λ (l : List ℕ). IsBehind (Covers ls) (accessed sh) known l a b) r h))

  pub of_as : (shape : Shape) (lines : List ℕ) (old new : S) → IsOf known shape_of lines_of IsWithin shape lines old → shape_of new ≡ shape_of old → lines_of new ≡ lines_of old
      → IsWithin (shape_of old) (lines_of old) (known new) → IsOf known shape_of lines_of IsWithin shape lines new
  of_as shape lines old new is p q w = record {
    of_shape = p ∙ is.of_shape;
    of_lines = q ∙ is.of_lines;
    within = subst (λ (s : Shape). IsWithin s lines (known new)) is.of_shape (subst (λ (l : List ℕ). IsWithin (shape_of old) l (known new)) is.of_lines w);
  }

pub alike_at : {S : Type 0} (IsIt : S → Type 0) (states : List S) (to : ℕ) (new : S) → to < length states → AreAlike IsIt states → IsIt new → AreAlike IsIt (set states to new)
alike_at IsIt states to new h all is = record {
  each = λ number state s. elim (set_cases states to number new state h s) [
    | inl p ↦ subst IsIt p.1 is
    | inr q ↦ all.each number state q
  ];
}

pub alike_more : {S : Type 0} (IsIt : S → Type 0) (states : List S) (new : S) → ((n : ℕ) (s : S) → slice_get states n ≡ Some s → IsIt s) → IsIt new
    → (n : ℕ) (s : S) → slice_get (states ++ new ∷ []) n ≡ Some s → IsIt s
alike_more IsIt [] new all is zero s e = subst IsIt (same_Some new s e) is
alike_more IsIt [] new all is (suc n) s e = absurd (omega (arith, slice_get_within (new ∷ []) (suc n) s e))
alike_more IsIt (x ∷ states) new all is zero s e = all 0 s e
alike_more IsIt (x ∷ states) new all is (suc n) s e = alike_more IsIt states new (λ m t f. all (suc m) t f) is n s e

-- what some moves have done that need not be all that a sweep follows
pub record FollowedSoFar {S V : Type 0} (Covers : V → V → Type 0) (access : V → ℕ → V) (known : S → V) (left : S → ℕ) (IsIt : S → Type 0) (flow : Flow) (moves : List Move) (changed : Bool)
    (old new : List S) : Type 0 where
  pub alike : AreAlike IsIt new
  pub raised : AreRaised Covers access known flow moves old new
  pub falls : changed ≡ true → sum_by left new < sum_by left old
  pub stands : changed ≡ false → new ≡ old

-- one move more of them
pub followed_more : {S V : Type 0} (Covers : V → V → Type 0) (access : V → ℕ → V) (known : S → V) (left : S → ℕ) (IsIt : S → Type 0) (flow : Flow) (moves : List Move)
    (same : (x : V) → Covers x x) (joins : (x y z : V) → Covers x y → Covers y z → Covers x z)
    (i : ℕ) (step : Move) (was now did : Bool) (old cur new : List S) → i < length moves → get_or moves i step ≡ step
    → AreAlike IsIt new → AreRaised Covers access known flow (step ∷ []) cur new → (did ≡ true → sum_by left new < sum_by left cur) → (did ≡ false → new ≡ cur)
    → ((did ≡ true) × (now ≡ true)) ⊎ ((did ≡ false) × (now ≡ was))
    → FollowedSoFar Covers access known left IsIt flow moves was old cur → FollowedSoFar Covers access known left IsIt flow moves now old new
followed_more {S} {V} Covers access known left IsIt flow moves same joins i step was now did old cur new h is alike raised falls stands cases so = record {
  alike = alike;
  raised = raised_twice Covers access known flow same joins moves (step ∷ []) old cur new
      (λ m c. subst (λ (x : Move). Contains moves x) (one_contained step m c) (i, h, is)) so.raised raised;
  falls = λ t. elim cases [
    | inl p ↦ elim (cases_Bool was) [
      | inl w ↦ omega (arith, falls p.0, so.falls w)
      | inr w ↦ omega (arith, falls p.0, ap (sum_by left) (so.stands w))
    ]
    | inr p ↦ omega (arith, so.falls (sym p.1 ∙ t), ap (sum_by left) (stands p.0))
  ];
  stands = λ f. elim cases [
    | inl p ↦ absurd (true≢false (sym p.1 ∙ f))
    | inr p ↦ stands p.0 ∙ so.stands (sym p.1 ∙ f)
  ];
}

-- one move more of a sweep
pub swept_more : {S V : Type 0} (Covers : V → V → Type 0) (access : V → ℕ → V) (known : S → V) (left : S → ℕ) (IsIt : S → Type 0) (flow : Flow) (moves : List Move)
    (same : (x : V) → Covers x x) (joins : (x y z : V) → Covers x y → Covers y z → Covers x z)
    (i : ℕ) (step : Move) (was now did : Bool) (old cur new : List S) → i < length moves → get_or moves i step ≡ step
    → AreAlike IsIt new → AreRaised Covers access known flow (step ∷ []) cur new → (did ≡ true → sum_by left new < sum_by left cur) → (did ≡ false → new ≡ cur)
    → (did ≡ false → AreSettled Covers access known flow (step ∷ []) new) → ((did ≡ true) × (now ≡ true)) ⊎ ((did ≡ false) × (now ≡ was))
    → SweptSoFar Covers access known left IsIt flow moves i was old cur → SweptSoFar Covers access known left IsIt flow moves (i + 1) now old new
swept_more {S} {V} Covers access known left IsIt flow moves same joins i step was now did old cur new h is alike raised falls stands settled cases so = record {
  alike = alike;
  raised = raised_twice Covers access known flow same joins moves (step ∷ []) old cur new
      (λ m c. subst (λ (x : Move). Contains moves x) (one_contained step m c) (i, h, is)) so.raised raised;
  falls = λ t. elim cases [
    | inl p ↦ elim (cases_Bool was) [
      | inl w ↦ omega (arith, falls p.0, so.falls w)
      | inr w ↦ omega (arith, falls p.0, ap (sum_by left) (so.stands w))
    ]
    | inr p ↦ omega (arith, so.falls (sym p.1 ∙ t), ap (sum_by left) (stands p.0))
  ];
  stands = λ f. elim cases [
    | inl p ↦ absurd (true≢false (sym p.1 ∙ f))
    | inr p ↦ stands p.0 ∙ so.stands (sym p.1 ∙ f)
  ];
  settled = λ f. elim cases [
    | inl p ↦ absurd (true≢false (sym p.1 ∙ f))
    | inr p ↦
        let before : AreSettled Covers access known flow (take i moves) new = subst (λ (xs : List S). AreSettled Covers access known flow (take i moves) xs) (sym (stands p.0)) (so.settled (sym p.1 ∙ f)) in
        let all : take (i + 1) moves ≡ take i moves ++ step ∷ [] = take_more moves i step h ∙ ap (λ (m : Move). take i moves ++ m ∷ []) is in
        record {
          each = λ m from to c s t. elim (Contains-append_cases (take i moves) (step ∷ []) m (subst (λ (xs : List Move). Contains xs m) all c)) [
            | inl old ↦ before.each m from to old s t
            | inr one ↦ (settled p.0).each m from to one s t
          ];
        }
  ];
}

push_cases : {X : Type 0} (xs : List X) (x : X) (n : ℕ) (y : X) → slice_get (xs ++ x ∷ []) n ≡ Some y → ((n ≡ length xs) × (x ≡ y)) ⊎ (slice_get xs n ≡ Some y)
push_cases [] x zero y e = inl (refl, same_Some x y e)
push_cases [] x (suc n) y e = absurd (omega (arith, slice_get_within (x ∷ []) (suc n) y e))
push_cases (z ∷ xs) x zero y e = inr e
push_cases (z ∷ xs) x (suc n) y e = elim (push_cases xs x n y e) [
  | inl p ↦ inl (ap suc p.0, p.1)
  | inr q ↦ inr q
]

pub element : {X : Type 0} (xs : List X) (n : ℕ) → n < length xs → (x : X) × (slice_get xs n ≡ Some x)
element [] n h = absurd (omega arith)
element (x ∷ xs) zero h = (x, refl)
element (x ∷ xs) (suc n) h = element xs n (omega arith)

module _ {S V : Type 0} (known : S → V) (shape_of : S → Shape) (lines_of : S → List ℕ) (IsWithin : Shape → List ℕ → V → Type 0)
    (Covers : List ℕ → V → V → Type 0) (accessed : Shape → V → ℕ → V) (start : Shape → V) (IsFair : Shape → V → Type 0) (shape : Shape) where
  pub first_none : (lines : List ℕ) (first : ℕ) → FirstSoFar (AreFirst known shape_of lines_of IsWithin Covers start IsFair shape lines first) 0 []
  first_none lines first = record { long = refl; each = record { each = λ n s e. absurd (omega (arith, slice_get_within {A = S} [] n s e)) } }

  pub first_more : (lines : List ℕ) (first i : ℕ) (states new : List S) (state : S) → new ≡ states ++ state ∷ []
      → IsFirst known shape_of lines_of IsWithin Covers start IsFair shape lines (i == first) state
      → FirstSoFar (AreFirst known shape_of lines_of IsWithin Covers start IsFair shape lines first) i states
      → FirstSoFar (AreFirst known shape_of lines_of IsWithin Covers start IsFair shape lines first) (i + 1) new
  first_more lines first i states new state e is so = record {
    long = ap length e ∙ length-append states (state ∷ []) ∙ ap (λ (n : ℕ). n + 1) so.long;
    each = record {
      each = λ n s at. elim (push_cases states state n s (ap (λ (xs : List S). slice_get xs n) (sym e) ∙ at)) [
        | inl p ↦ subst (λ (x : S). IsFirst known shape_of lines_of IsWithin Covers start IsFair shape lines (n == first) x) p.1
            (subst (λ (k : ℕ). IsFirst known shape_of lines_of IsWithin Covers start IsFair shape lines (k == first) state) (sym so.long ∙ sym p.0) is)
        | inr q ↦ so.each.each n s q
      ];
    };
  }

  pub least_of : (flow : Flow) (moves : List Move) (first : ℕ) (old new : List S) (same : (x : V) → Covers flow.lines x x)
      (joins : (x y z : V) → Covers flow.lines x y → Covers flow.lines y z → Covers flow.lines x z)
      → length old ≡ length flow.nodes
      → AreFirst known shape_of lines_of IsWithin Covers start IsFair shape flow.lines first old
      → AreRaised (Covers flow.lines) (accessed shape) known flow moves old new → AreSettled (Covers flow.lines) (accessed shape) known flow moves new
      → IsLeast known Covers accessed start IsFair shape flow moves first new
  least_of flow moves first old new same joins long are raised settled = record {
    begins = λ state at.
        let before = element old first (omega (arith, slice_get_within new first state at, raised.long)) in
        joins (known state) (known before.0) (start shape) (raised.grown first before.0 state before.1 at)
        ((are.each first before.0 before.1).covers (eq-eqb first first refl));
    settled = settled;
    least = λ others fair covers follows. raised.least others follows (record {
      each = λ number state at. elim (cases_Bool (number == first)) [
        | inl e ↦
            let is : number ≡ first = eqb-true number first e in
            joins (others number) (start shape) (known state) (subst (λ (n : ℕ). Covers flow.lines (others n) (start shape)) (sym is) covers) ((are.each number state at).covered e)
        | inr e ↦ (are.each number state at).elsewhere e (others number) (fair number (omega (arith, slice_get_within old number state at, long)))
      ];
    });
  }
