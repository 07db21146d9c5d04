-- An access leaves the lines of other sets as they are, so what is told of a line follows from the accesses to its set.
use Rattle.std.proofs.Common.{◌≡◌, ℕ, zero, suc, ◌+◌, ◌<◌, ◌≤◌, Bool, true, false, cond, not, ◌&&◌, ◌||◌, List, [], ◌∷◌, length, get_or, map, min, take, refl, sym, ap, ◌∙◌, subst, inl, inr, arith, eqb, ltb, leb}
use Rattle.std.specs.List.{All, Contains, filter}
use Rattle.std.proofs.lemmas.Bool.{cases_Bool, cases_lt, eq-eqb, eqb-true, ltb-true, or_left, or_right, true≢false, false≢true}
use Rattle.std.proofs.lemmas.List.{length-map, get_or_past, get_or-map}
use Rattle.std.proofs.lemmas.List.Elements.{All-nil, All-cons, All-head, All-tail, All-map, All-weaker}
use Rattle.std.proofs.lemmas.List.Kept.{AllPairs-filter}
use Rattle.wx_base.specs.declared.machine.Shape.{Shape}
use Rattle.wx_base.specs.Facts.{AreAscending}
use Rattle.wx_base.specs.Cache.{set_of}
use Rattle.wx_base.specs.CacheStates.{Ages, is_rival, must_accessed, must_hold, must_start, MustCovers, may_accessed, may_hold, may_start, MayCovers}
use Rattle.cache_ages.specs.Bounds.{AreAges, is_one_of}
use Rattle.cache_flow.specs.declared.flow.Flow.{Flow}
use Rattle.cache_flow.specs.declared.flow.Move.{Move}
use Rattle.cache_flow.specs.Flows.{IsFlow, accesses_of}
use Rattle.cache_flow.specs.Solutions.{must_along, may_along, must_at, may_at, IsMustSolution, IsMaySolution}
use Rattle.cache_flow.specs.Shown.{IsHeld, IsBarred}
use Rattle.cache_sets.specs.Sets.{is_in_set, of_set, IsSetFlow, place_in_set, SetsTellHeld, SetsTellBarred}

-- ---- lists

pub take_filtered : (p : ℕ → Bool) (n : ℕ) (xs : List ℕ) → take (length (filter p (take n xs))) (filter p xs) ≡ filter p (take n xs)
take_filtered p zero xs = refl
take_filtered p (suc n) [] = refl
take_filtered p (suc n) (x ∷ xs) = elim (cases_Bool (p x)) [
  | inl e ↦ rw e (ap (λ ys. x ∷ ys) (take_filtered p n xs))
  | inr e ↦ rw e (take_filtered p n xs)
]

pub accesses_in : (shape : Shape) (set : ℕ) (flow narrow : Flow) (node : ℕ) → IsSetFlow shape set flow narrow → accesses_of narrow node ≡ of_set shape set (accesses_of flow node)
accesses_in shape set flow narrow node is = elim (cases_lt node (length flow.nodes)) [
  | inl h ↦ ap (λ ns. get_or ns node []) is.nodes ∙ get_or-map (of_set shape set) flow.nodes node [] [] h
  | inr h ↦
      get_or_past narrow.nodes node [] (omega (arith, h, ap length is.nodes, length-map flow.nodes (of_set shape set)))
      ∙ sym (ap (of_set shape set) (get_or_past flow.nodes node [] h))
]

pub before_in : (shape : Shape) (set : ℕ) (flow narrow : Flow) (node place : ℕ) → IsSetFlow shape set flow narrow
    → take (place_in_set shape set flow node place) (accesses_of narrow node) ≡ of_set shape set (take place (accesses_of flow node))
before_in shape set flow narrow node place is =
    ap (take (place_in_set shape set flow node place)) (accesses_in shape set flow narrow node is) ∙ take_filtered (is_in_set shape set) place (accesses_of flow node)

-- ---- a narrow flow is a flow

one_kept : (p : ℕ → Bool) (lines : List ℕ) (line : ℕ) → is_one_of lines line ≡ true → p line ≡ true → is_one_of (filter p lines) line ≡ true
one_kept p [] line one h = absurd (false≢true one)
one_kept p (x ∷ lines) line one h = elim (cases_Bool (eqb x line)) [
  | inl e ↦ rw (ap p (eqb-true x line e) ∙ h) (or_left (eqb x line) (is_one_of (filter p lines) line) e)
  | inr e ↦
      let rest : is_one_of (filter p lines) line ≡ true = one_kept p lines line (rw e at one) h in
      elim (cases_Bool (p x)) [
        | inl f ↦ rw f (or_right (eqb x line) (is_one_of (filter p lines) line) rest)
        | inr f ↦ rw f rest
      ]
]

all_kept : (p : ℕ → Bool) (lines xs : List ℕ) → All (λ line. is_one_of lines line ≡ true) xs → All (λ line. is_one_of (filter p lines) line ≡ true) (filter p xs)
all_kept p lines [] all = All-nil (λ line. is_one_of (filter p lines) line ≡ true)
all_kept p lines (x ∷ xs) all =
    let rest = all_kept p lines xs (All-tail (λ line. is_one_of lines line ≡ true) x xs all) in
    elim (cases_Bool (p x)) [
      | inl e ↦ rw e (All-cons (λ line. is_one_of (filter p lines) line ≡ true) x (filter p xs) (one_kept p lines x (All-head (λ line. is_one_of lines line ≡ true) x xs all) e) rest)
      | inr e ↦ rw e rest
    ]

pub narrow_is_flow : (shape : Shape) (set : ℕ) (flow narrow : Flow) → IsSetFlow shape set flow narrow → IsFlow flow → IsFlow narrow
narrow_is_flow shape set flow narrow is flows =
    let count : length narrow.nodes ≡ length flow.nodes = ap length is.nodes ∙ length-map flow.nodes (of_set shape set) in
    record {
      start = omega (arith, flows.start, count, is.start);
      from = subst (λ ms. All (λ (move : Move). move.from < length narrow.nodes) ms) (sym is.moves) (subst (λ n. All (λ (move : Move). move.from < n) flow.moves) (sym count) flows.from);
      to = subst (λ ms. All (λ (move : Move). move.to < length narrow.nodes) ms) (sym is.moves) (subst (λ n. All (λ (move : Move). move.to < n) flow.moves) (sym count) flows.to);
      ascending = subst AreAscending (sym is.lines) (AllPairs-filter (λ a b. a < b) (is_in_set shape set) flow.lines flows.ascending);
      listed = subst (λ ns. All (λ accesses. All (λ line. is_one_of narrow.lines line ≡ true) accesses) ns) (sym is.nodes)
          (All-map (λ accesses. All (λ line. is_one_of narrow.lines line ≡ true) accesses) (of_set shape set) flow.nodes
          (All-weaker (λ accesses. All (λ line. is_one_of flow.lines line ≡ true) accesses) (λ accesses. All (λ line. is_one_of narrow.lines line ≡ true) (of_set shape set accesses))
          (λ accesses all. subst (λ ls. All (λ line. is_one_of ls line ≡ true) (of_set shape set accesses)) (sym is.lines) (all_kept (is_in_set shape set) flow.lines accesses all)) flow.nodes flows.listed));
    }

-- ---- lines of a set and of others

-- a line of the set is not one of another set
pub apart : (shape : Shape) (set line other : ℕ) → is_in_set shape set line ≡ true → is_in_set shape set other ≡ false → eqb line other ≡ false
apart shape set line other h n = elim (cases_Bool (eqb line other)) [
  | inl e ↦ absurd (true≢false (sym h ∙ ap (is_in_set shape set) (eqb-true line other e) ∙ n))
  | inr e ↦ e
]

sets_differ : (a b set : ℕ) → eqb a set ≡ true → eqb b set ≡ false → eqb a b ≡ false
sets_differ a b set h n = elim (cases_Bool (eqb a b)) [
  | inl e ↦ absurd (false≢true (sym n ∙ ap (λ k. eqb k set) (sym (eqb-true a b e)) ∙ h))
  | inr e ↦ e
]

-- nor its rival
pub no_rival : (shape : Shape) (set line other : ℕ) → is_in_set shape set line ≡ true → is_in_set shape set other ≡ false → is_rival shape line other ≡ false
no_rival shape set line other h n =
    ap (λ b. b && not (eqb line other)) (sets_differ (set_of shape line) (set_of shape other) set h n)

-- ---- bounds that agree at the lines of a set

abbrev Agree : Shape → ℕ → Ages → Ages → Type 0
Agree shape set x y = (line : ℕ) → is_in_set shape set line ≡ true → x line ≡ y line

same_must : (shape : Shape) (x y : Ages) (line other : ℕ) → x other ≡ y other → x line ≡ y line → must_accessed shape x line other ≡ must_accessed shape y line other
same_must shape x y line other p q =
    λ i. cond (eqb other line) 0 (cond (is_rival shape other line && ltb (p i) (q i)) (p i + 1) (p i))

same_may : (shape : Shape) (x y : Ages) (line other : ℕ) → x other ≡ y other → x line ≡ y line → may_accessed shape x line other ≡ may_accessed shape y line other
same_may shape x y line other p q =
    λ i. cond (eqb other line) 0 (cond (is_rival shape other line && leb (p i) (q i)) (min (p i + 1) shape.ways) (p i))

still_must : (same rival : Bool) (x : Ages) (line other : ℕ) → same ≡ false → rival ≡ false
    → cond same 0 (cond (rival && ltb (x other) (x line)) (x other + 1) (x other)) ≡ x other
still_must same rival x line other e r = λ i. cond (e i) 0 (cond (r i && ltb (x other) (x line)) (x other + 1) (x other))

still_may : (same rival : Bool) (shape : Shape) (x : Ages) (line other : ℕ) → same ≡ false → rival ≡ false
    → cond same 0 (cond (rival && leb (x other) (x line)) (min (x other + 1) shape.ways) (x other)) ≡ x other
still_may same rival shape x line other e r = λ i. cond (e i) 0 (cond (r i && leb (x other) (x line)) (min (x other + 1) shape.ways) (x other))

-- an access to a line of another set changes nothing in the set
must_elsewhere : (shape : Shape) (set : ℕ) (x : Ages) (line other : ℕ) → is_in_set shape set other ≡ true → is_in_set shape set line ≡ false
    → must_accessed shape x line other ≡ x other
must_elsewhere shape set x line other h n = still_must (eqb other line) (is_rival shape other line) x line other (apart shape set other line h n) (no_rival shape set other line h n)

may_elsewhere : (shape : Shape) (set : ℕ) (x : Ages) (line other : ℕ) → is_in_set shape set other ≡ true → is_in_set shape set line ≡ false
    → may_accessed shape x line other ≡ x other
may_elsewhere shape set x line other h n = still_may (eqb other line) (is_rival shape other line) shape x line other (apart shape set other line h n) (no_rival shape set other line h n)

pub must_narrowed : (shape : Shape) (set : ℕ) (x y : Ages) (xs : List ℕ) → Agree shape set x y
    → (line : ℕ) → is_in_set shape set line ≡ true → must_along shape x xs line ≡ must_along shape y (of_set shape set xs) line
must_narrowed shape set x y [] e line h = e line h
must_narrowed shape set x y (n ∷ xs) e line h = elim (cases_Bool (is_in_set shape set n)) [
  | inl there ↦ rw there (must_narrowed shape set (must_accessed shape x n) (must_accessed shape y n) xs
      (λ other k. same_must shape x y n other (e other k) (e n there)) line h)
  | inr away ↦ rw away (must_narrowed shape set (must_accessed shape x n) y xs
      (λ other k. must_elsewhere shape set x n other k away ∙ e other k) line h)
]

pub may_narrowed : (shape : Shape) (set : ℕ) (x y : Ages) (xs : List ℕ) → Agree shape set x y
    → (line : ℕ) → is_in_set shape set line ≡ true → may_along shape x xs line ≡ may_along shape y (of_set shape set xs) line
may_narrowed shape set x y [] e line h = e line h
may_narrowed shape set x y (n ∷ xs) e line h = elim (cases_Bool (is_in_set shape set n)) [
  | inl there ↦ rw there (may_narrowed shape set (may_accessed shape x n) (may_accessed shape y n) xs
      (λ other k. same_may shape x y n other (e other k) (e n there)) line h)
  | inr away ↦ rw away (may_narrowed shape set (may_accessed shape x n) y xs
      (λ other k. may_elsewhere shape set x n other k away ∙ e other k) line h)
]

-- ---- states that tell of the set alone

pub only : Shape → ℕ → ℕ → (ℕ → Ages) → ℕ → Ages
only shape set outside states node line = cond (is_in_set shape set line) (states node line) outside

only_in : (shape : Shape) (set outside : ℕ) (states : ℕ → Ages) (node line : ℕ) → is_in_set shape set line ≡ true → only shape set outside states node line ≡ states node line
unfolding only
only_in shape set outside states node line h = λ i. cond (h i) (states node line) outside

only_out : (shape : Shape) (set outside : ℕ) (states : ℕ → Ages) (node line : ℕ) → is_in_set shape set line ≡ false → only shape set outside states node line ≡ outside
unfolding only
only_out shape set outside states node line h = λ i. cond (h i) (states node line) outside

-- bounds of lines of other sets that are at most the number of ways stay so
abbrev Within : Shape → ℕ → Ages → Type 0
Within shape set x = (line : ℕ) → is_in_set shape set line ≡ false → x line ≤ shape.ways

within_case : (same rival : Bool) (a b ways : ℕ) → a ≤ ways → (rival ≡ true → b ≤ ways) → cond same 0 (cond (rival && ltb a b) (a + 1) a) ≤ ways
within_case true rival a b ways h k = omega arith
within_case false false a b ways h k = h
within_case false true a b ways h k = elim (cases_Bool (ltb a b)) [
  | inl e ↦ rw e (omega (arith, ltb-true a b e, k refl))
  | inr e ↦ rw e h
]

and_first : (a b : Bool) → (a && b) ≡ true → a ≡ true
and_first true b h = refl
and_first false b h = absurd (false≢true h)

rival_out : (shape : Shape) (set line other : ℕ) → is_in_set shape set line ≡ false → is_rival shape line other ≡ true → is_in_set shape set other ≡ false
rival_out shape set line other n r =
    let e : set_of shape line ≡ set_of shape other = eqb-true (set_of shape line) (set_of shape other) (and_first (eqb (set_of shape line) (set_of shape other)) (not (eqb line other)) r) in
    ap (λ k. eqb k set) (sym e) ∙ n

within_step : (shape : Shape) (set : ℕ) (x : Ages) (n : ℕ) → Within shape set x → Within shape set (must_accessed shape x n)
within_step shape set x n w line h =
    within_case (eqb line n) (is_rival shape line n) (x line) (x n) shape.ways (w line h) (λ r. w n (rival_out shape set line n h r))

must_stays_within : (shape : Shape) (set : ℕ) (x : Ages) (xs : List ℕ) → Within shape set x → Within shape set (must_along shape x xs)
must_stays_within shape set x [] w = w
must_stays_within shape set x (n ∷ xs) w = must_stays_within shape set (must_accessed shape x n) xs (within_step shape set x n w)

-- ---- solutions

module _ (shape : Shape) (set : ℕ) (flow narrow : Flow) (is : IsSetFlow shape set flow narrow) where
  abbrev outside_is : (ℕ → Ages) → ℕ → Ages
  outside_is states = only shape set shape.ways states

  agree_only : (outside : ℕ) (states : ℕ → Ages) (node : ℕ) → Agree shape set (only shape set outside states node) (states node)
  agree_only outside states node line h = only_in shape set outside states node line h

  agree_back : (outside : ℕ) (states : ℕ → Ages) (node : ℕ) → Agree shape set (states node) (only shape set outside states node)
  agree_back outside states node line h = sym (only_in shape set outside states node line h)

  out_within : (states : ℕ → Ages) (node : ℕ) → Within shape set (outside_is states node)
  out_within states node line h = omega (arith, only_out shape set shape.ways states node line h)

  must_start_in : (states : ℕ → Ages) (node : ℕ) → MustCovers (states node) (must_start shape) → MustCovers (outside_is states node) (must_start shape)
  must_start_in states node c = record {
    each = λ line. elim (cases_Bool (is_in_set shape set line)) [
      | inl h ↦ omega (arith, only_in shape set shape.ways states node line h, c.each line)
      | inr h ↦ omega (arith, only_out shape set shape.ways states node line h)
    ];
  }

  -- a must solution of the accesses to the set is one of all accesses, with nothing known of other lines
  must_wide : (states : ℕ → Ages) → IsMustSolution shape narrow states → IsMustSolution shape flow (outside_is states)
  must_wide states s = record {
    start = must_start_in states flow.start (subst (λ n. MustCovers (states n) (must_start shape)) is.start s.start);
    moves = λ move there. record {
      each = λ line. elim (cases_Bool (is_in_set shape set line)) [
        | inl h ↦
            let along = must_narrowed shape set (outside_is states move.from) (states move.from) (accesses_of flow move.from) (agree_only shape.ways states move.from) line h in
            let covers = (s.moves move (subst (λ ms. Contains ms move) (sym is.moves) there)).each line in
            let same = ap (λ xs. must_along shape (states move.from) xs line) (accesses_in shape set flow narrow move.from is) in
            omega (arith, along, covers, same, only_in shape set shape.ways states move.to line h)
        | inr h ↦
            omega (
              arith,
              must_stays_within shape set (outside_is states move.from) (accesses_of flow move.from) (out_within states move.from) line h,
              only_out shape set shape.ways states move.to line h,
            )
      ];
    };
  }

  -- and one of all accesses is one of those to the set
  must_narrow : (states : ℕ → Ages) → IsMustSolution shape flow states → IsMustSolution shape narrow (outside_is states)
  must_narrow states s = record {
    start = must_start_in states narrow.start (subst (λ n. MustCovers (states n) (must_start shape)) (sym is.start) s.start);
    moves = λ move there. record {
      each = λ line. elim (cases_Bool (is_in_set shape set line)) [
        | inl h ↦
            let along = must_narrowed shape set (states move.from) (outside_is states move.from) (accesses_of flow move.from) (agree_back shape.ways states move.from) line h in
            let covers = (s.moves move (subst (λ ms. Contains ms move) is.moves there)).each line in
            let same = ap (λ xs. must_along shape (outside_is states move.from) xs line) (accesses_in shape set flow narrow move.from is) in
            omega (arith, along, covers, same, only_in shape set shape.ways states move.to line h)
        | inr h ↦
            omega (
              arith,
              must_stays_within shape set (outside_is states move.from) (accesses_of narrow move.from) (out_within states move.from) line h,
              only_out shape set shape.ways states move.to line h,
            )
      ];
    };
  }

  abbrev cleared : (ℕ → Ages) → ℕ → Ages
  cleared states = only shape set 0 states

  may_start_in : (states : ℕ → Ages) (node : ℕ) → MayCovers (states node) may_start → MayCovers (cleared states node) may_start
  may_start_in states node c = record {
    each = λ line. elim (cases_Bool (is_in_set shape set line)) [
      | inl h ↦ omega (arith, only_in shape set 0 states node line h, c.each line)
      | inr h ↦ omega (arith, only_out shape set 0 states node line h)
    ];
  }

  may_ages_in : (states : ℕ → Ages) (node : ℕ) → AreAges shape (states node) → AreAges shape (cleared states node)
  may_ages_in states node c = record {
    each = λ line. elim (cases_Bool (is_in_set shape set line)) [
      | inl h ↦ omega (arith, only_in shape set 0 states node line h, c.each line)
      | inr h ↦ omega (arith, only_out shape set 0 states node line h)
    ];
  }

  same_count : length narrow.nodes ≡ length flow.nodes
  same_count = ap length is.nodes ∙ length-map flow.nodes (of_set shape set)

  may_wide : (states : ℕ → Ages) → IsMaySolution shape narrow states → IsMaySolution shape flow (cleared states)
  may_wide states s = record {
    within = λ node h. may_ages_in states node (s.within node (omega (arith, h, same_count)));
    start = may_start_in states flow.start (subst (λ n. MayCovers (states n) may_start) is.start s.start);
    moves = λ move there. record {
      each = λ line. elim (cases_Bool (is_in_set shape set line)) [
        | inl h ↦
            let along = may_narrowed shape set (cleared states move.from) (states move.from) (accesses_of flow move.from) (agree_only 0 states move.from) line h in
            let covers = (s.moves move (subst (λ ms. Contains ms move) (sym is.moves) there)).each line in
            let same = ap (λ xs. may_along shape (states move.from) xs line) (accesses_in shape set flow narrow move.from is) in
            omega (arith, along, covers, same, only_in shape set 0 states move.to line h)
        | inr h ↦ omega (arith, only_out shape set 0 states move.to line h)
      ];
    };
  }

  may_narrow : (states : ℕ → Ages) → IsMaySolution shape flow states → IsMaySolution shape narrow (cleared states)
  may_narrow states s = record {
    within = λ node h. may_ages_in states node (s.within node (omega (arith, h, same_count)));
    start = may_start_in states narrow.start (subst (λ n. MayCovers (states n) may_start) (sym is.start) s.start);
    moves = λ move there. record {
      each = λ line. elim (cases_Bool (is_in_set shape set line)) [
        | inl h ↦
            let along = may_narrowed shape set (states move.from) (cleared states move.from) (accesses_of flow move.from) (agree_back 0 states move.from) line h in
            let covers = (s.moves move (subst (λ ms. Contains ms move) is.moves there)).each line in
            let same = ap (λ xs. may_along shape (cleared states move.from) xs line) (accesses_in shape set flow narrow move.from is) in
            omega (arith, along, covers, same, only_in shape set 0 states move.to line h)
        | inr h ↦ omega (arith, only_out shape set 0 states move.to line h)
      ];
    };
  }

  module _ (node place line : ℕ) (h : is_in_set shape set line ≡ true) where
    at_place : (outside : ℕ) (states : ℕ → Ages) → must_at shape flow (only shape set outside states) node place line ≡ must_at shape narrow states node (place_in_set shape set flow node place) line
    at_place outside states =
        must_narrowed shape set (only shape set outside states node) (states node) (take place (accesses_of flow node)) (agree_only outside states node) line h
        ∙ ap (λ xs. must_along shape (states node) xs line) (sym (before_in shape set flow narrow node place is))

    place_at : (outside : ℕ) (states : ℕ → Ages) → must_at shape flow states node place line ≡ must_at shape narrow (only shape set outside states) node (place_in_set shape set flow node place) line
    place_at outside states =
        must_narrowed shape set (states node) (only shape set outside states node) (take place (accesses_of flow node)) (agree_back outside states node) line h
        ∙ ap (λ xs. must_along shape (only shape set outside states node) xs line) (sym (before_in shape set flow narrow node place is))

    may_at_place : (outside : ℕ) (states : ℕ → Ages) → may_at shape flow (only shape set outside states) node place line ≡ may_at shape narrow states node (place_in_set shape set flow node place) line
    may_at_place outside states =
        may_narrowed shape set (only shape set outside states node) (states node) (take place (accesses_of flow node)) (agree_only outside states node) line h
        ∙ ap (λ xs. may_along shape (states node) xs line) (sym (before_in shape set flow narrow node place is))

    may_place_at : (outside : ℕ) (states : ℕ → Ages) → may_at shape flow states node place line ≡ may_at shape narrow (only shape set outside states) node (place_in_set shape set flow node place) line
    may_place_at outside states =
        may_narrowed shape set (states node) (only shape set outside states node) (take place (accesses_of flow node)) (agree_back outside states node) line h
        ∙ ap (λ xs. may_along shape (only shape set outside states node) xs line) (sym (before_in shape set flow narrow node place is))

pub held_in_sets : SetsTellHeld
held_in_sets shape set flow narrow node place line is h = (
  (λ held. record {
    states = only shape set shape.ways held.states;
    solution = must_narrow shape set flow narrow is held.states held.solution;
    holds = ap (λ (age : ℕ). ltb age shape.ways) (sym (place_at shape set flow narrow is node place line h shape.ways held.states)) ∙ held.holds;
  }),
  (λ held. record {
    states = only shape set shape.ways held.states;
    solution = must_wide shape set flow narrow is held.states held.solution;
    holds = ap (λ (age : ℕ). ltb age shape.ways) (at_place shape set flow narrow is node place line h shape.ways held.states) ∙ held.holds;
  }),
)

pub barred_in_sets : SetsTellBarred
barred_in_sets shape set flow narrow node place line is h = (
  (λ barred. record {
    states = only shape set 0 barred.states;
    solution = may_narrow shape set flow narrow is barred.states barred.solution;
    bars = ap (λ (age : ℕ). ltb age shape.ways) (sym (may_place_at shape set flow narrow is node place line h 0 barred.states)) ∙ barred.bars;
  }),
  (λ barred. record {
    states = only shape set 0 barred.states;
    solution = may_wide shape set flow narrow is barred.states barred.solution;
    bars = ap (λ (age : ℕ). ltb age shape.ways) (may_at_place shape set flow narrow is node place line h 0 barred.states) ∙ barred.bars;
  }),
)
