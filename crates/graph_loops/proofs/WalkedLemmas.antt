-- A closed walk lies in the loop of a head on it.
use Rattle.std.proofs.Common.{◌≡◌, ℕ, zero, suc, ◌<◌, ◌≤◌, Bool, true, false, cond, eqb, List, [], ◌∷◌, ◌++◌, length, refl, sym, subst, ◌∙◌, inl, inr, arith}
use Rattle.std.specs.Prelude.{◌⊎◌}
use Rattle.std.proofs.lemmas.Bool.{cases_eq, eq-eqb, ne_eqb}
use Rattle.std.proofs.lemmas.List.Elements.{Contains-append_cases, Contains-append_left, Contains-append_right}
use Rattle.std.specs.List.{Contains}
use Rattle.wx_base.specs.Paths.{Path, IsBackEdge, IsMember, IsForward, ForwardPath, IsOnForwardCycle}
use Rattle.wx_base.specs.Paths.Path.{here, further}
use Rattle.wx_base.specs.Paths.ForwardPath.{one, more}
use Rattle.graph_loops.specs.Laws.{IsWalk, LieInLoop, EdgesAreTold, ClosedWalksLieInLoops}
use Rattle.graph_loops.proofs.Places.{none_there, the_one, is_the_one}
use Rattle.graph_loops.proofs.PathLemmas.{ends_free, joined, first_comes}

-- ---- elements of lists

pub in_front : (x : ℕ) (xs : List ℕ) → Contains (x ∷ xs) x
in_front x xs = Contains-append_left (x ∷ []) xs x (is_the_one x)

pub in_rest : (x : ℕ) (xs : List ℕ) (y : ℕ) → Contains xs y → Contains (x ∷ xs) y
in_rest x xs y h = Contains-append_right (x ∷ []) xs y h

pub front_or_rest : (x : ℕ) (xs : List ℕ) (y : ℕ) → Contains (x ∷ xs) y → (y ≡ x) ⊎ Contains xs y
front_or_rest x xs y h = elim (Contains-append_cases (x ∷ []) xs y h) [ inl l ↦ inl (sym (the_one x y l)) | inr l ↦ inr l ]

-- an element stands in a list or does not
pub there_or_not : (xs : List ℕ) (y : ℕ) → Contains xs y ⊎ (Contains xs y → ⊥)
there_or_not [] y = inr (none_there y)
there_or_not (x ∷ xs) y = elim (cases_eq y x) [
  | inl e ↦ inl (subst (λ (z : ℕ). Contains (x ∷ xs) z) (sym e) (in_front x xs))
  | inr apart ↦ elim (there_or_not xs y) [
    | inl h ↦ inl (in_rest x xs y h)
    | inr none ↦ inr (λ h. elim (front_or_rest x xs y h) [ inl e ↦ apart e | inr l ↦ none l ])
  ]
]

-- the list with one of its elements taken out: the others are still there
pub record TakenOut (xs : List ℕ) (x : ℕ) : Type 0 where
  pub rest : List ℕ
  pub shorter : length rest < length xs
  pub others : (y : ℕ) → Contains xs y → (y ≡ x) ⊎ Contains rest y

take_out : (xs : List ℕ) (x : ℕ) → Contains xs x → TakenOut xs x
take_out [] x h = absurd (none_there x h)
take_out (z ∷ xs) x h = elim (front_or_rest z xs x h) [
  | inl e ↦ record {
    rest = xs;
    shorter = omega arith;
    others = λ y k. elim (front_or_rest z xs y k) [ inl f ↦ inl (f ∙ sym e) | inr l ↦ inr l ];
  }
  | inr l ↦
      let out = take_out xs x l in
      record {
        rest = z ∷ out.rest;
        shorter = let s : length out.rest < length xs = out.shorter in omega arith;
        others = λ y k. elim (front_or_rest z xs y k) [
          | inl f ↦ inr (subst (λ (w : ℕ). Contains (z ∷ out.rest) w) (sym f) (in_front z out.rest))
          | inr m ↦ elim (out.others y m) [ inl f ↦ inl f | inr n ↦ inr (in_rest z out.rest y n) ]
        ];
      }
]

-- ---- the moves of a walk, as a graph of their own

abbrev moves : ℕ → List ℕ → ℕ → ℕ → List ℕ
moves from [] to x = cond (eqb x from) (to ∷ []) []
moves from (v ∷ through) to x = cond (eqb x from) (v ∷ []) [] ++ moves v through to x

-- the one move of a choice
the_move : (b : Bool) (to y : ℕ) → Contains (cond b (to ∷ []) []) y → (b ≡ true) × (y ≡ to)
the_move true to y h = (refl, sym (the_one to y h))
the_move false to y h = absurd (none_there y h)

is_move : (from to : ℕ) → Contains (cond (eqb from from) (to ∷ []) []) to
is_move from to = subst (λ (b : Bool). Contains (cond b (to ∷ []) []) to) (sym (eq-eqb from from refl)) (is_the_one to)

eqb_same : (x from : ℕ) → eqb x from ≡ true → x ≡ from
eqb_same x from e = elim (cases_eq x from) [ inl f ↦ f | inr apart ↦ absurd (let f = ne_eqb x from apart in let g : false ≡ true = sym f ∙ e in cc) ]

-- a move of the walk is an edge of the graph, from a vertex of the walk
moves_are_edges : (leads : ℕ → List ℕ) (from : ℕ) (through : List ℕ) (to x y : ℕ) → IsWalk leads from through to → Contains (moves from through to x) y
    → Contains (leads x) y × Contains (from ∷ through) x
moves_are_edges leads from [] to x y walk h =
    let m = the_move (eqb x from) to y h in
    let e = eqb_same x from m.0 in (
      subst (λ (u : ℕ). Contains (leads u) y) (sym e) (subst (λ (u : ℕ). Contains (leads from) u) (sym m.1) walk),
      subst (λ (u : ℕ). Contains (from ∷ []) u) (sym e) (is_the_one from),
    )
moves_are_edges leads from (v ∷ through) to x y walk h = elim (Contains-append_cases (cond (eqb x from) (v ∷ []) []) (moves v through to x) y h) [
  | inl k ↦
      let m = the_move (eqb x from) v y k in
      let e = eqb_same x from m.0 in (
        subst (λ (u : ℕ). Contains (leads u) y) (sym e) (subst (λ (u : ℕ). Contains (leads from) u) (sym m.1) walk.0),
        subst (λ (u : ℕ). Contains (from ∷ v ∷ through) u) (sym e) (in_front from (v ∷ through)),
      )
  | inr k ↦
      let m = moves_are_edges leads v through to x y walk.1 k in
      (m.0, in_rest from (v ∷ through) x m.1)
]

-- a path of one graph is one of another that has its edges
pub carried : (f g : ℕ → List ℕ) → ((x y : ℕ) → Contains (f x) y → Contains (g x) y) → (avoided : List ℕ) {a b : ℕ} → Path f avoided a b → Path g avoided a b
carried f g h avoided (here a n) = here a n
carried f g h avoided {a} (further {b = b} n e p) = further n (h a b e) (carried f g h avoided p)

-- along the walk its first vertex leads to each, and each to the last one
record IsAlong (from : ℕ) (through : List ℕ) (to y : ℕ) : Type 0 where
  forth : Path (moves from through to) [] from y
  back : Path (moves from through to) [] y to

along_each : (from : ℕ) (through : List ℕ) (to y : ℕ) → Contains (from ∷ through) y → IsAlong from through to y
along_each from [] to y h =
    let M = moves from [] to in
    let first : IsAlong from [] to from = record { forth = here from (none_there from); back = further (none_there from) (is_move from to) (here to (none_there to)) } in
    subst (λ (u : ℕ). IsAlong from [] to u) (the_one from y h) first
along_each from (v ∷ through) to y h =
    let M = moves from (v ∷ through) to in
    let lift = λ (x z : ℕ) (k : Contains (moves v through to x) z). Contains-append_right (cond (eqb x from) (v ∷ []) []) (moves v through to x) z k in
    let edge : Contains (M from) v = Contains-append_left (cond (eqb from from) (v ∷ []) []) (moves v through to from) v (is_move from v) in
    elim (front_or_rest from (v ∷ through) y h) [
      | inl e ↦
          let on = along_each v through to v (in_front v through) in
          subst (λ (u : ℕ). IsAlong from (v ∷ through) to u) (sym e)
          (record { forth = here from (none_there from); back = further (none_there from) edge (carried (moves v through to) M lift [] on.back) })
      | inr l ↦
          let on = along_each v through to y l in
          record { forth = further (none_there from) edge (carried (moves v through to) M lift [] on.forth); back = carried (moves v through to) M lift [] on.back }
    ]

-- a vertex of the walk that leads to another one along it
record IsMoveInto (from : ℕ) (through : List ℕ) (to y : ℕ) : Type 0 where
  source : ℕ
  move : Contains (moves from through to source) y

last_move : (from : ℕ) (through : List ℕ) (to : ℕ) → IsMoveInto from through to to
last_move from [] to = record { source = from; move = is_move from to }
last_move from (v ∷ through) to =
    let last = last_move v through to in
    record { source = last.source; move = Contains-append_right (cond (eqb last.source from) (v ∷ []) []) (moves v through to last.source) to last.move }

module _ (leads : ℕ → List ℕ) (entry : ℕ) where
  -- ---- forward paths

  -- the same vertex, or one that forward edges lead to
  abbrev IsBelow : ℕ → ℕ → Type 0
  IsBelow a b = (b ≡ a) ⊎ ForwardPath leads entry a b

  forward_on : {a b c : ℕ} → ForwardPath leads entry a b → IsForward leads entry b c → ForwardPath leads entry a c
  forward_on (one e) f = more e (one f)
  forward_on (more e p) f = more e (forward_on p f)

  cycle : (a b : ℕ) → IsForward leads entry a b → IsBelow b a → IsOnForwardCycle leads entry b
  cycle a b f (inl e) = one (subst (λ (u : ℕ). IsForward leads entry u b) e f)
  cycle a b f (inr p) = forward_on p f

  still_below : (a b c : ℕ) → IsForward leads entry a b → IsBelow b c → IsBelow a c
  still_below a b c f (inl e) = inr (one (subst (λ (u : ℕ). IsForward leads entry a u) (sym e) f))
  still_below a b c f (inr p) = inr (more f p)

  module _ (v : ℕ) (through : List ℕ) (told : EdgesAreTold leads entry) (acyclic : (u : ℕ) → IsOnForwardCycle leads entry u → ⊥)
      (reached : Path leads [] entry v) (walk : IsWalk leads v through v) where
    edge_of : (x y : ℕ) → Contains (moves v through v x) y → Contains (leads x) y
    edge_of x y k = (moves_are_edges leads v through v x y walk k).0

    reached_each : (x : ℕ) → Contains (v ∷ through) x → Path leads [] entry x
    reached_each x h = joined leads [] reached (carried (moves v through v) leads edge_of [] (along_each v through v x h).forth)

    -- each move of the walk into a vertex is a back edge
    record AllBack (sources : List ℕ) (h : ℕ) : Type 0 where
      each : (p : ℕ) → Contains sources p → Contains (moves v through v p) h → IsBackEdge leads entry p h

    -- some move of the walk into a vertex is a forward edge
    record SomeForward (h : ℕ) : Type 0 where
      source : ℕ
      among : Contains (v ∷ through) source
      edge : IsForward leads entry source h

    look : (h : ℕ) (sources : List ℕ) → ((p : ℕ) → Contains sources p → Contains (v ∷ through) p) → SomeForward h ⊎ AllBack sources h
    look h [] within = inr (record { each = λ p k m. absurd (none_there p k) })
    look h (q ∷ sources) within = elim (look h sources (λ p k. within p (in_rest q sources p k))) [
      | inl f ↦ inl f
      | inr back ↦ elim (there_or_not (moves v through v q) h) [
        | inr none ↦ inr (record {
          each = λ p k m. elim (front_or_rest q sources p k) [
            | inl e ↦ absurd (none (subst (λ (u : ℕ). Contains (moves v through v u) h) e m))
            | inr l ↦ back.each p l m
          ];
        })
        | inl move ↦ elim (told.each q h (reached_each q (within q (in_front q sources))) (edge_of q h move)) [
          | inr f ↦ inl (record { source = q; among = within q (in_front q sources); edge = f })
          | inl b ↦ inr (record {
            each = λ p k m. elim (front_or_rest q sources p k) [
              | inl e ↦ subst (λ (u : ℕ). IsBackEdge leads entry u h) (sym e) b
              | inr l ↦ back.each p l m
            ];
          })
        ]
      ]
    ]

    -- a vertex of the walk into which it moves along back edges alone
    record IsTop : Type 0 where
      head : ℕ
      among : Contains (v ∷ through) head
      back : AllBack (v ∷ through) head

    -- every vertex of the walk is still to be come to, or below the one come to
    record AreLeft (h : ℕ) (rest : List ℕ) : Type 0 where
      each : (x : ℕ) → Contains (v ∷ through) x → Contains rest x ⊎ IsBelow h x

    climbed : (h : ℕ) (rest : List ℕ) → Contains (v ∷ through) h → AreLeft h rest → ((f : SomeForward h) → TakenOut rest f.source → IsTop) → IsTop
    climbed h rest among left go = elim (look h (v ∷ through) (λ p k. k)) [
      | inr back ↦ record { head = h; among = among; back = back }
      | inl f ↦ elim (left.each f.source f.among) [
        | inr below ↦ absurd (acyclic h (cycle f.source h f.edge below))
        | inl there ↦ go f (take_out rest f.source there)
      ]
    ]

    left_on : (h : ℕ) (rest : List ℕ) → AreLeft h rest → (f : SomeForward h) (out : TakenOut rest f.source) → AreLeft f.source out.rest
    left_on h rest left f out = record {
      each = λ x k. elim (left.each x k) [
        | inr below ↦ inr (still_below f.source h x f.edge below)
        | inl there ↦ elim (out.others x there) [ inl e ↦ inr (inl e) | inr l ↦ inl l ]
      ];
    }

    -- against forward edges a walk comes to such a vertex: it never comes to one that it has left
    climb : (n h : ℕ) (rest : List ℕ) → length rest ≤ n → Contains (v ∷ through) h → AreLeft h rest → IsTop
    climb zero h rest few among left = climbed h rest among left (λ f out. absurd (let l : length out.rest < length rest = out.shorter in omega arith))
    climb (suc m) h rest few among left =
        climbed h rest among left (λ f out. let l : length out.rest < length rest = out.shorter in climb m f.source out.rest (omega arith) f.among (left_on h rest left f out))

    -- some move leads into each vertex of the walk
    move_into : (h : ℕ) → Contains (v ∷ through) h → IsMoveInto v through v h
    move_into h among = elim (cases_eq v h) [
      | inl e ↦ subst (λ (u : ℕ). IsMoveInto v through v u) e (last_move v through v)
      | inr apart ↦
          let first = first_comes (moves v through v) h {a = v} {b = h} apart (along_each v through v h among).forth (λ q. ends_free (moves v through v) (h ∷ []) q (is_the_one h)) in
          record { source = first.before; move = first.edge }
    ]

    member : (top : IsTop) (x : ℕ) → Contains (v ∷ through) x → IsMember leads entry top.head x
    member top x k = elim (cases_eq x top.head) [
      | inl e ↦ inl e
      | inr apart ↦
          let there = joined (moves v through v) [] (along_each v through v x k).back (along_each v through v top.head top.among).forth in
          let first = first_comes (moves v through v) top.head {a = x} {b = top.head} apart there (λ q. ends_free (moves v through v) (top.head ∷ []) q (is_the_one top.head)) in
          inr (record {
            reached = reached_each x k;
            source = first.before;
            back = top.back.each first.before (moves_are_edges leads v through v first.before top.head walk first.edge).1 first.edge;
            path = carried (moves v through v) leads edge_of (top.head ∷ []) first.path;
          })
    ]

    pub lies : LieInLoop leads entry (v ∷ through)
    lies =
        let all : AreLeft v (v ∷ through) = record { each = λ x k. inl k } in
        let top = climb (length (v ∷ through)) v (v ∷ through) (omega arith) (in_front v through) all in
        let into = move_into top.head top.among in
        record {
          head = top.head;
          among = top.among;
          is_head = record { source = into.source; back = top.back.each into.source (moves_are_edges leads v through v into.source top.head walk into.move).1 into.move };
          members = member top;
        }

pub closed_walks : ClosedWalksLieInLoops
closed_walks leads entry v through told acyclic reached walk = lies leads entry v through told acyclic reached walk
