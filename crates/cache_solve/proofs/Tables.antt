-- The states that the solver gives are the least solutions of the definitions.
use Rattle.std.proofs.Common.{◌≡◌, ℕ, zero, suc, ◌+◌, ◌<◌, ◌≤◌, Bool, true, false, List, [], ◌∷◌, length, Some, None, inl, inr, refl, sym, ap, subst, ◌∙◌, arith}
use Rattle.std.specs.List.{All, Contains, slice_get}
use Rattle.std.specs.Option.{option_map_or}
use Rattle.std.proofs.lemmas.Bool.{cases_Bool, cases_lt, false≢true}
use Rattle.std.proofs.lemmas.List.Elements.{All-contains, All-get_or, All-nil, All-head, All-tail}
use Rattle.std.proofs.lemmas.List.{get_or_past}
use Rattle.std.proofs.lemmas.Option.{slice_get_past}
use Rattle.wx_base.specs.declared.machine.Shape.{Shape}
use Rattle.wx_base.specs.CacheStates.{Ages, must_start, must_accessed, may_start, may_accessed, Younger, younger_start, younger_accessed}
use Rattle.cache_ages.specs.Bounds.{Bounds, must_ages, may_ages, is_one_of, AreAges}
use Rattle.cache_ages.proofs.Beside.{beside_absent}
use Rattle.cache_flow.specs.declared.flow.Flow.{Flow}
use Rattle.cache_flow.specs.declared.flow.Move.{Move}
use Rattle.cache_flow.specs.Flows.{Part, IsFlow, accesses_of}
use Rattle.cache_flow.specs.Solutions.{must_along, may_along, IsLeastMust, IsMustSolution, IsLeastMay, IsMaySolution, IsLeastYounger, IsYoungerSolution, YoungerCoversAt}
use Rattle.cache_pers.specs.Stays.{Stay, younger_of, younger_along}
use Rattle.cache_solve.specs.Orders.{MustCoversAt, MayCoversAt, IsOfLines, must_table, may_table, younger_table}
use Rattle.cache_solve.specs.Systems.{along, FollowsEach, AreAlike, IsBehind, IsOf, IsLeast, AreInner}
use Rattle.cache_solve.proofs.Orders.{must_same, must_stays, may_same, younger_same, younger_stays}
use Rattle.cache_solve.proofs.Solving.{element}

listed_at : (flow : Flow) (node : ℕ) → IsFlow flow → All (λ line. is_one_of flow.lines line ≡ true) (accesses_of flow node)
listed_at flow node is = elim (cases_lt node (length flow.nodes)) [
  | inl h ↦ All-get_or (λ accesses. All (λ line. is_one_of flow.lines line ≡ true) accesses) flow.nodes node [] h is.listed
  | inr h ↦ rw (get_or_past flow.nodes node [] h) (All-nil (λ line. is_one_of flow.lines line ≡ true))
]

-- ---- must

along_must : (shape : Shape) (x : Ages) (xs : List ℕ) → along (must_accessed shape) x xs ≡ must_along shape x xs
along_must shape x [] = refl
along_must shape x (n ∷ xs) = along_must shape (must_accessed shape x n) xs

must_stay : (shape : Shape) (lines : List ℕ) (x : Ages) (xs : List ℕ) → All (λ line. is_one_of lines line ≡ true) xs → AreAges shape x → AreAges shape (must_along shape x xs)
must_stay shape lines x [] l w = w
must_stay shape lines x (n ∷ xs) l w =
    must_stay shape lines (must_accessed shape x n) xs (All-tail (λ line. is_one_of lines line ≡ true) n xs l)
    (must_stays shape lines x n (All-head (λ line. is_one_of lines line ≡ true) n xs l) w)

abbrev MustOf : Shape → List ℕ → Bounds → Type 0
MustOf shape lines = IsOf must_ages (λ b. b.shape) (λ b. b.lines) (λ s ls ages. AreAges s ages) shape lines

must_outside : (shape : Shape) (lines : List ℕ) (b : Bounds) (line : ℕ) → MustOf shape lines b → is_one_of lines line ≡ false → must_ages b line ≡ shape.ways
must_outside shape lines b line of none =
    beside_absent b.shape.ways b.lines b.ages line (subst (λ (ls : List ℕ). is_one_of ls line ≡ false) (sym of.of_lines) none) ∙ ap (λ (s : Shape). s.ways) of.of_shape

pub must_least : (shape : Shape) (flow : Flow) (states : List Bounds) → IsFlow flow → length states ≡ length flow.nodes
    → AreAlike (IsOf must_ages (λ b. b.shape) (λ b. b.lines) (λ s ls ages. AreAges s ages) shape flow.lines) states
    → IsLeast must_ages MustCoversAt must_accessed must_start (λ s ages. Unit {0}) shape flow flow.moves flow.start states
    → IsLeastMust shape flow (must_table shape states)
must_least shape flow states is long alike least = record {
  solution = record {
    start =
        let first = element states flow.start (omega (arith, is.start, long)) in
        let at : must_table shape states flow.start ≡ must_ages first.0 = ap (λ o. option_map_or must_ages o (must_start shape)) first.1 in
        record {
          each = λ line. rw at (elim (cases_Bool (is_one_of flow.lines line)) [
            | inl one ↦ (least.begins first.0 first.1).each line one
            | inr none ↦ omega (arith, must_outside shape flow.lines first.0 line (alike.each flow.start first.0 first.1) none)
          ]);
        };
    moves = λ m c.
        let from = element states m.from (omega (arith, All-contains (λ (x : Move). x.from < length flow.nodes) flow.moves m is.from c, long)) in
        let to = element states m.to (omega (arith, All-contains (λ (x : Move). x.to < length flow.nodes) flow.moves m is.to c, long)) in
        let at_from : must_table shape states m.from ≡ must_ages from.0 = ap (λ o. option_map_or must_ages o (must_start shape)) from.1 in
        let at_to : must_table shape states m.to ≡ must_ages to.0 = ap (λ o. option_map_or must_ages o (must_start shape)) to.1 in
        let told = least.settled.each m from.0 to.0 c from.1 to.1 in
        let low = must_stay shape flow.lines (must_ages from.0) (accesses_of flow m.from) (listed_at flow m.from is) (alike.each m.from from.0 from.1).within in
        record {
          each = λ line. rw (at_from, at_to) (elim (cases_Bool (is_one_of flow.lines line)) [
            | inl one ↦ omega (arith, told.each line one, ap (λ (f : Ages). f line) (along_must shape (must_ages from.0) (accesses_of flow m.from)))
            | inr none ↦ omega (arith, low.each line, must_outside shape flow.lines to.0 line (alike.each m.to to.0 to.1) none)
          ]);
        };
  };
  least = λ others sol node h line one.
      let state = element states node (omega (arith, h, long)) in
      let at : must_table shape states node ≡ must_ages state.0 = ap (λ o. option_map_or must_ages o (must_start shape)) state.1 in
      let below = least.least others (λ n k. tt) (record { each = λ l o. sol.start.each l }) (record {
        each = λ m c. record {
          each = λ l o. omega (arith, (sol.moves m c).each l, ap (λ (f : Ages). f l) (along_must shape (others m.from) (accesses_of flow m.from)));
        };
      }) in
      rw at ((below.each node state.0 state.1).each line one);
}

-- ---- may

along_may : (shape : Shape) (x : Ages) (xs : List ℕ) → along (may_accessed shape) x xs ≡ may_along shape x xs
along_may shape x [] = refl
along_may shape x (n ∷ xs) = along_may shape (may_accessed shape x n) xs

abbrev MayOf : Shape → List ℕ → Bounds → Type 0
MayOf shape lines = IsOf may_ages (λ b. b.shape) (λ b. b.lines) (λ s ls ages. AreAges s ages) shape lines

may_outside : (shape : Shape) (lines : List ℕ) (b : Bounds) (line : ℕ) → MayOf shape lines b → is_one_of lines line ≡ false → may_ages b line ≡ 0
may_outside shape lines b line of none = beside_absent 0 b.lines b.ages line (subst (λ (ls : List ℕ). is_one_of ls line ≡ false) (sym of.of_lines) none)

pub may_least : (shape : Shape) (flow : Flow) (states : List Bounds) → IsFlow flow → length states ≡ length flow.nodes
    → AreAlike (IsOf may_ages (λ b. b.shape) (λ b. b.lines) (λ s ls ages. AreAges s ages) shape flow.lines) states
    → IsLeast may_ages MayCoversAt may_accessed (λ s. may_start) (λ s ages. AreAges s ages) shape flow flow.moves flow.start states
    → IsLeastMay shape flow (may_table states)
may_least shape flow states is long alike least = record {
  solution = record {
    within = λ node h.
        let state = element states node (omega (arith, h, long)) in
        let at : may_table states node ≡ may_ages state.0 = ap (λ o. option_map_or may_ages o (λ line. 0)) state.1 in
        rw at (alike.each node state.0 state.1).within;
    start =
        let first = element states flow.start (omega (arith, is.start, long)) in
        let at : may_table states flow.start ≡ may_ages first.0 = ap (λ o. option_map_or may_ages o (λ line. 0)) first.1 in
        record {
          each = λ line. rw at (elim (cases_Bool (is_one_of flow.lines line)) [
            | inl one ↦ (least.begins first.0 first.1).each line one
            | inr none ↦ omega (arith, may_outside shape flow.lines first.0 line (alike.each flow.start first.0 first.1) none)
          ]);
        };
    moves = λ m c.
        let from = element states m.from (omega (arith, All-contains (λ (x : Move). x.from < length flow.nodes) flow.moves m is.from c, long)) in
        let to = element states m.to (omega (arith, All-contains (λ (x : Move). x.to < length flow.nodes) flow.moves m is.to c, long)) in
        let at_from : may_table states m.from ≡ may_ages from.0 = ap (λ o. option_map_or may_ages o (λ line. 0)) from.1 in
        let at_to : may_table states m.to ≡ may_ages to.0 = ap (λ o. option_map_or may_ages o (λ line. 0)) to.1 in
        let told = least.settled.each m from.0 to.0 c from.1 to.1 in
        record {
          each = λ line. rw (at_from, at_to) (elim (cases_Bool (is_one_of flow.lines line)) [
            | inl one ↦ omega (arith, told.each line one, ap (λ (f : Ages). f line) (along_may shape (may_ages from.0) (accesses_of flow m.from)))
            | inr none ↦ omega (arith, may_outside shape flow.lines to.0 line (alike.each m.to to.0 to.1) none)
          ]);
        };
  };
  least = λ others sol node h line one.
      let state = element states node (omega (arith, h, long)) in
      let at : may_table states node ≡ may_ages state.0 = ap (λ o. option_map_or may_ages o (λ line. 0)) state.1 in
      let below = least.least others (λ n k. sol.within n k) (record { each = λ l o. sol.start.each l }) (record {
        each = λ m c. record {
          each = λ l o. omega (arith, (sol.moves m c).each l, ap (λ (f : Ages). f l) (along_may shape (others m.from) (accesses_of flow m.from)));
        };
      }) in
      rw at ((below.each node state.0 state.1).each line one);
}

-- ---- younger

along_younger : (shape : Shape) (x : Younger) (xs : List ℕ) → along (younger_accessed shape) x xs ≡ younger_along shape x xs
along_younger shape x [] = refl
along_younger shape x (n ∷ xs) = along_younger shape (younger_accessed shape x n) xs

younger_stay : (shape : Shape) (lines : List ℕ) (x : Younger) (xs : List ℕ) → All (λ line. is_one_of lines line ≡ true) xs → IsOfLines lines x → IsOfLines lines (younger_along shape x xs)
younger_stay shape lines x [] l w = w
younger_stay shape lines x (n ∷ xs) l w =
    younger_stay shape lines (younger_accessed shape x n) xs (All-tail (λ line. is_one_of lines line ≡ true) n xs l)
    (younger_stays shape lines x n (All-head (λ line. is_one_of lines line ≡ true) n xs l) w)

pub younger_least : (shape : Shape) (flow : Flow) (part : Part) (inner : List Move) (states : List Stay) → IsFlow flow → length states ≡ length flow.nodes → AreInner flow part inner
    → AreAlike (IsOf younger_of (λ b. b.shape) (λ b. b.lines) (λ s ls younger. IsOfLines ls younger) shape flow.lines) states
    → IsLeast younger_of YoungerCoversAt younger_accessed (λ s. younger_start) (λ s younger. Unit {0}) shape flow inner part.head states
    → IsLeastYounger shape flow part (younger_table states)
younger_least shape flow part inner states is long chosen alike least = record {
  solution = record {
    head = record { known = λ line h. absurd (false≢true h); held = λ line other h i. absurd (false≢true h) };
    moves = λ m c f t.
        let from = element states m.from (omega (arith, All-contains (λ (x : Move). x.from < length flow.nodes) flow.moves m is.from c, long)) in
        let to = element states m.to (omega (arith, All-contains (λ (x : Move). x.to < length flow.nodes) flow.moves m is.to c, long)) in
        let at_from : younger_table states m.from ≡ younger_of from.0 = ap (λ o. option_map_or younger_of o younger_start) from.1 in
        let at_to : younger_table states m.to ≡ younger_of to.0 = ap (λ o. option_map_or younger_of o younger_start) to.1 in
        let told = subst (λ (y : Younger). YoungerCoversAt flow.lines (younger_of to.0) y) (along_younger shape (younger_of from.0) (accesses_of flow m.from))
        (least.settled.each m from.0 to.0 ((chosen.exact m).1 (c, f, t)) from.1 to.1) in
        let low = younger_stay shape flow.lines (younger_of from.0) (accesses_of flow m.from) (listed_at flow m.from is) (alike.each m.from from.0 from.1).within in
        rw (at_from, at_to) record {
          known = λ line h. told.known line (low.known line h) h;
          held = λ line other h i. let both = low.held line other i in told.held line other both.0 both.1 h i;
        };
  };
  least = λ others sol node member. elim (cases_lt node (length states)) [
    | inl h ↦
        let state = element states node h in
        let at : younger_table states node ≡ younger_of state.0 = ap (λ o. option_map_or younger_of o younger_start) state.1 in
        let below = least.least others (λ n k. tt) (record { known = λ l o h. absurd (false≢true h); held = λ l k o p h i. absurd (false≢true h) }) (record {
          each = λ m c.
              let mine = (chosen.exact m).0 c in
              let covers = sol.moves m mine.0 mine.1 mine.2 in
              subst (λ (y : Younger). YoungerCoversAt flow.lines (others m.to) y) (sym (along_younger shape (others m.from) (accesses_of flow m.from)))
              (record { known = λ l o. covers.known l; held = λ l k o p. covers.held l k });
        }) in
        rw at (below.each node state.0 state.1)
    | inr h ↦
        let at : younger_table states node ≡ younger_start = ap (λ o. option_map_or younger_of o younger_start) (slice_get_past states node h) in
        rw at record { known = λ l o h. absurd (false≢true h); held = λ l k o p h i. absurd (false≢true h) }
  ];
}

-- ---- behind some accesses of a node

pub must_passed : (shape : Shape) (lines : List ℕ) (before after : Bounds) (xs : List ℕ) → IsBehind (MustCoversAt lines) (must_accessed shape) must_ages xs before after
    → (line : ℕ) → is_one_of lines line ≡ true → must_ages after line ≡ must_along shape (must_ages before) xs line
must_passed shape lines before after xs is line one = omega (
  arith,
  is.covers.each line one,
  (is.least (must_ages before) (must_same lines (must_ages before))).each line one,
  ap (λ (f : Ages). f line) (along_must shape (must_ages before) xs),
)

pub may_passed : (shape : Shape) (lines : List ℕ) (before after : Bounds) (xs : List ℕ) → IsBehind (MayCoversAt lines) (may_accessed shape) may_ages xs before after
    → (line : ℕ) → is_one_of lines line ≡ true → may_ages after line ≡ may_along shape (may_ages before) xs line
may_passed shape lines before after xs is line one = omega (
  arith,
  is.covers.each line one,
  (is.least (may_ages before) (may_same lines (may_ages before))).each line one,
  ap (λ (f : Ages). f line) (along_may shape (may_ages before) xs),
)

pub younger_passed : (shape : Shape) (lines : List ℕ) (before after : Stay) (xs : List ℕ) → IsBehind (YoungerCoversAt lines) (younger_accessed shape) younger_of xs before after
    → YoungerCoversAt lines (younger_of after) (younger_along shape (younger_of before) xs) × YoungerCoversAt lines (younger_along shape (younger_of before) xs) (younger_of after)
younger_passed shape lines before after xs is = (
  subst (λ (y : Younger). YoungerCoversAt lines (younger_of after) y) (along_younger shape (younger_of before) xs) is.covers,
  subst (λ (y : Younger). YoungerCoversAt lines y (younger_of after)) (along_younger shape (younger_of before) xs) (is.least (younger_of before) (younger_same lines (younger_of before))),
)
