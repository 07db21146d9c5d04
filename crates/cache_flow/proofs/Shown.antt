-- What some solution shows at an access the least one shows, and what the least one shows some solution does.
use Rattle.std.proofs.Common.{◌≡◌, ℕ, zero, suc, ◌+◌, ◌<◌, ◌≤◌, ◌⊎◌, Bool, true, false, cond, not, ◌&&◌, ◌||◌, List, [], ◌∷◌, length, get_or, map, min, take, Option, Some, None, refl, sym, ap, ◌∙◌, subst, inl, inr, arith, eqb, ltb, leb}
use Rattle.std.specs.List.{All, Any, Contains, filter, filter_map, cons_option, slice_get}
use Rattle.std.proofs.lemmas.Bool.{cases_Bool, cases_lt, eq-eqb, eqb-true, le-leb, lt-leb, le-ltb, or_left, or_right, lt-ltb, ltb-true, true≢false, false≢true}
use Rattle.std.proofs.lemmas.List.{length-map, get_or_past, get_or-map}
use Rattle.std.proofs.lemmas.List.Elements.{All-get_or, All-nil, All-take, All-head, All-tail, Contains-get_or}
use Rattle.std.proofs.lemmas.Option.{same_Some, slice_get_within, get_or_from_slice_get}
use Rattle.wx_base.specs.declared.machine.Shape.{Shape}
use Rattle.wx_base.specs.CacheStates.{Ages, is_rival, must_accessed, must_hold, may_accessed, may_hold, Younger, younger_accessed, is_kept}
use Rattle.cache_ages.specs.Bounds.{is_one_of}
use Rattle.cache_pers.specs.Stays.{younger_along}
use Rattle.cache_flow.specs.declared.flow.Flow.{Flow}
use Rattle.cache_flow.specs.Flows.{Part, IsFlow, accesses_of}
use Rattle.cache_flow.specs.Solutions.{must_along, may_along, YoungerCoversAt, must_at, may_at, younger_at, IsLeastMust, IsLeastMay, IsLeastYounger}
use Rattle.cache_flow.specs.Shown.{IsHeld, IsBarred, IsKept, LeastMustShows, LeastMayShows, LeastYoungerShows}
use Rattle.cache_flow.proofs.Runs.{listed_at}

-- ---- bounds of one state that are below those of another at some lines

must_case : (same rival : Bool) (xo xl yo yl : ℕ) → xo ≤ yo → xl ≤ yl
    → cond same 0 (cond (rival && ltb xo xl) (xo + 1) xo) ≤ cond same 0 (cond (rival && ltb yo yl) (yo + 1) yo)
must_case true rival xo xl yo yl p q = omega arith
must_case false false xo xl yo yl p q = p
must_case false true xo xl yo yl p q = elim (cases_lt xo xl) [
  | inr over ↦ rw (le-ltb xo xl over) (elim (cases_lt yo yl) [
    | inl less ↦ rw (lt-ltb yo yl less) (omega (arith, p))
    | inr more ↦ rw (le-ltb yo yl more) p
  ])
  | inl under ↦ rw (lt-ltb xo xl under) (elim (cases_lt yo yl) [
    | inl less ↦ rw (lt-ltb yo yl less) (omega (arith, p))
    | inr more ↦ rw (le-ltb yo yl more) (omega (arith, under, q, more))
  ])
]

may_case : (same rival : Bool) (xo xl yo yl ways : ℕ) → xo ≤ yo → xl ≤ yl → yo ≤ ways
    → cond same 0 (cond (rival && leb xo xl) (min (xo + 1) ways) xo) ≤ cond same 0 (cond (rival && leb yo yl) (min (yo + 1) ways) yo)
may_case true rival xo xl yo yl ways p q w = omega arith
may_case false false xo xl yo yl ways p q w = p
may_case false true xo xl yo yl ways p q w = elim (cases_lt yl yo) [
  | inr under ↦ rw (le-leb yo yl under) (elim (cases_lt xl xo) [
    | inr less ↦ rw (le-leb xo xl less) (omega (arith, p))
    | inl more ↦ rw (lt-leb xo xl more) (omega (arith, p, w))
  ])
  | inl over ↦ rw (lt-leb yo yl over) (elim (cases_lt xl xo) [
    | inr less ↦ rw (le-leb xo xl less) (omega (arith, less, q, over))
    | inl more ↦ rw (lt-leb xo xl more) p
  ])
]

within_case : (same b : Bool) (y ways : ℕ) → y ≤ ways → cond same 0 (cond b (min (y + 1) ways) y) ≤ ways
within_case true b y ways w = omega arith
within_case false true y ways w = omega arith
within_case false false y ways w = w

-- an access keeps upper bounds in order
must_step : (shape : Shape) (x y : Ages) (line other : ℕ) → x other ≤ y other → x line ≤ y line → must_accessed shape x line other ≤ must_accessed shape y line other
must_step shape x y line other p q = must_case (eqb other line) (is_rival shape other line) (x other) (x line) (y other) (y line) p q

-- no lower bound comes above the number of ways
may_within : (shape : Shape) (y : Ages) (line other : ℕ) → y other ≤ shape.ways → may_accessed shape y line other ≤ shape.ways
may_within shape y line other w = within_case (eqb other line) (is_rival shape other line && leb (y other) (y line)) (y other) shape.ways w

-- and an access keeps lower bounds in order
may_step : (shape : Shape) (x y : Ages) (line other : ℕ) → x other ≤ y other → x line ≤ y line → y other ≤ shape.ways → may_accessed shape x line other ≤ may_accessed shape y line other
may_step shape x y line other p q w = may_case (eqb other line) (is_rival shape other line) (x other) (x line) (y other) (y line) shape.ways p q w

abbrev Listed : List ℕ → List ℕ → Type 0
Listed lines xs = All (λ line. is_one_of lines line ≡ true) xs

-- upper bounds at some lines stay in order over accesses to such lines
pub must_order : (shape : Shape) (lines : List ℕ) (x y : Ages) (xs : List ℕ) → Listed lines xs → ((line : ℕ) → is_one_of lines line ≡ true → x line ≤ y line)
    → (line : ℕ) → is_one_of lines line ≡ true → must_along shape x xs line ≤ must_along shape y xs line
must_order shape lines x y [] l e line one = e line one
must_order shape lines x y (n ∷ xs) l e line one =
    must_order shape lines (must_accessed shape x n) (must_accessed shape y n) xs (All-tail (λ line. is_one_of lines line ≡ true) n xs l)
    (λ other h. must_step shape x y n other (e other h) (e n (All-head (λ line. is_one_of lines line ≡ true) n xs l))) line one

-- so do lower bounds, none of which is above the number of ways
pub may_order : (shape : Shape) (lines : List ℕ) (x y : Ages) (xs : List ℕ) → Listed lines xs → ((line : ℕ) → y line ≤ shape.ways)
    → ((line : ℕ) → is_one_of lines line ≡ true → x line ≤ y line)
    → (line : ℕ) → is_one_of lines line ≡ true → may_along shape x xs line ≤ may_along shape y xs line
may_order shape lines x y [] l w e line one = e line one
may_order shape lines x y (n ∷ xs) l w e line one =
    may_order shape lines (may_accessed shape x n) (may_accessed shape y n) xs (All-tail (λ line. is_one_of lines line ≡ true) n xs l)
    (λ other. may_within shape y n other (w other))
    (λ other h. may_step shape x y n other (e other h) (e n (All-head (λ line. is_one_of lines line ≡ true) n xs l)) (w other)) line one

-- ---- what is kept

-- an access keeps what covers at some lines
known_order : (same kx ky : Bool) → (ky ≡ true → kx ≡ true) → (same || ky) ≡ true → (same || kx) ≡ true
known_order true kx ky p h = refl
known_order false kx ky p h = p h

held_order : (same kx ky hx hy r e : Bool) → (ky ≡ true → kx ≡ true) → (ky ≡ true → hy ≡ true → hx ≡ true) → (same || ky) ≡ true
    → cond same false (hy || (ky && r && e)) ≡ true → cond same false (hx || (kx && r && e)) ≡ true
held_order true kx ky hx hy r e p q k h = absurd (false≢true h)
held_order false kx ky hx true r e p q k h = rw (q k refl) refl
held_order false kx ky hx false r e p q k h = rw (p k) (or_right hx (r && e) (rw k at h))

younger_keeps_order : (shape : Shape) (lines : List ℕ) (x y : Younger) (line : ℕ) → YoungerCoversAt lines x y
    → YoungerCoversAt lines (younger_accessed shape x line) (younger_accessed shape y line)
younger_keeps_order shape lines x y line p = record {
  known = λ other h k. known_order (eqb other line) (x.known other) (y.known other) (p.known other h) k;
  held = λ other newer h i k held.
      held_order (eqb other line) (x.known other) (y.known other) (x.held other newer) (y.held other newer) (is_rival shape other line) (eqb newer line)
      (p.known other h) (p.held other newer h i) k held;
}

pub younger_order : (shape : Shape) (lines : List ℕ) (x y : Younger) (xs : List ℕ) → Listed lines xs → YoungerCoversAt lines x y
    → YoungerCoversAt lines (younger_along shape x xs) (younger_along shape y xs)
younger_order shape lines x y [] l p = p
younger_order shape lines x y (n ∷ xs) l p =
    younger_order shape lines (younger_accessed shape x n) (younger_accessed shape y n) xs (All-tail (λ line. is_one_of lines line ≡ true) n xs l)
    (younger_keeps_order shape lines x y n p)

filter_le : (p q : ℕ → Bool) (xs : List ℕ) → ((x : ℕ) → is_one_of xs x ≡ true → q x ≡ true → p x ≡ true) → length (filter q xs) ≤ length (filter p xs)
filter_le p q [] h = omega arith
filter_le p q (x ∷ xs) h =
    let rest = filter_le p q xs (λ y one. h y (rest_one x y xs one)) in
    elim (cases_Bool (q x)) [
      | inl e ↦ rw (e, h x (or_left (eqb x x) (is_one_of xs x) (eq-eqb x x refl)) e) (omega (arith, rest))
      | inr e ↦ elim (cases_Bool (p x)) [
        | inl f ↦ rw (e, f) (omega (arith, rest))
        | inr f ↦ rw (e, f) rest
      ]
    ]
  where
    rest_one : (x y : ℕ) (xs : List ℕ) → is_one_of xs y ≡ true → is_one_of (x ∷ xs) y ≡ true
    rest_one x y xs one = elim (cases_Bool (eqb x y)) [
      | inl e ↦ or_left (eqb x y) (is_one_of xs y) e
      | inr e ↦ rw e one
    ]

pub kept_order : (shape : Shape) (lines : List ℕ) (x y : Younger) (line : ℕ) → is_one_of lines line ≡ true → YoungerCoversAt lines x y
    → is_kept shape lines x line ≡ true → is_kept shape lines y line ≡ true
kept_order shape lines x y line one p kept = elim (cases_Bool (y.known line)) [
  | inr e ↦ rw e refl
  | inl e ↦
      let k : x.known line ≡ true = p.known line one e in
      let low : ltb (length (filter (x.held line) lines)) shape.ways ≡ true = rw k at kept in
      let less = filter_le (x.held line) (y.held line) lines (λ other h held. p.held line other one h e held) in
      rw e (lt-ltb (length (filter (y.held line) lines)) shape.ways (omega (arith, less, ltb-true (length (filter (x.held line) lines)) shape.ways low)))
]

-- ---- what the least solutions show

-- a bound that is below another, which is below the number of ways
below_ways : (low high ways : ℕ) → low ≤ high → ltb high ways ≡ true → ltb low ways ≡ true
below_ways low high ways le h = lt-ltb low ways (omega (arith, le, ltb-true high ways h))

-- and one above another that is not
above_ways : (low high ways : ℕ) → low ≤ high → ltb low ways ≡ false → ltb high ways ≡ false
above_ways low high ways le h = elim (cases_lt low ways) [
  | inl lt ↦ absurd (true≢false (sym (lt-ltb low ways lt) ∙ h))
  | inr more ↦ le-ltb high ways (omega (arith, le, more))
]

module _ (shape : Shape) (flow : Flow) (node place line : ℕ) (is : IsFlow flow) (one : is_one_of flow.lines line ≡ true) where
  listed : Listed flow.lines (take place (accesses_of flow node))
  listed = All-take (λ n. is_one_of flow.lines n ≡ true) place (accesses_of flow node) (listed_at flow node is)

  held_by_least : (states : ℕ → Ages) → IsLeastMust shape flow states → node < length flow.nodes → IsHeld shape flow node place line
      → must_hold shape (must_at shape flow states node place) line ≡ true
  held_by_least states least inside h =
      below_ways (must_at shape flow states node place line) (must_at shape flow h.states node place line) shape.ways
      (must_order shape flow.lines (states node) (h.states node) (take place (accesses_of flow node)) listed
      (λ n there. least.least h.states h.solution node inside n there) line one) h.holds

  barred_by_least : (states : ℕ → Ages) → IsLeastMay shape flow states → node < length flow.nodes → IsBarred shape flow node place line
      → may_hold shape (may_at shape flow states node place) line ≡ false
  barred_by_least states least inside h =
      above_ways (may_at shape flow h.states node place line) (may_at shape flow states node place line) shape.ways
      (may_order shape flow.lines (h.states node) (states node) (take place (accesses_of flow node)) listed
      (λ n. (least.solution.within node inside).each n)
      (λ n there. least.least h.states h.solution node inside n there) line one) h.bars

  kept_by_least : (part : Part) (states : ℕ → Younger) → IsLeastYounger shape flow part states → Contains part.members node → IsKept shape flow part node place line
      → is_kept shape flow.lines (younger_at shape flow states node place) line ≡ true
  kept_by_least part states least member h =
      kept_order shape flow.lines (younger_at shape flow h.states node place) (younger_at shape flow states node place) line one
      (younger_order shape flow.lines (h.states node) (states node) (take place (accesses_of flow node)) listed
      (least.least h.states h.solution node member)) h.kept

pub must_shows : LeastMustShows
must_shows shape flow states node place line is least inside one =
    (λ h. record { states = states; solution = least.solution; holds = h }, held_by_least shape flow node place line is one states least inside)

pub may_shows : LeastMayShows
may_shows shape flow states node place line is least inside one =
    (λ h. record { states = states; solution = least.solution; bars = h }, barred_by_least shape flow node place line is one states least inside)

pub younger_shows : LeastYoungerShows
younger_shows shape flow part states node place line is least member one =
    (λ h. record { states = states; solution = least.solution; kept = h }, kept_by_least shape flow node place line is one part states least member)
