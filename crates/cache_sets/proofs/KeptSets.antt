-- What is kept of a line of a set follows from the accesses to the set.
use Rattle.std.proofs.Common.{◌≡◌, ℕ, zero, suc, ◌+◌, ◌<◌, ◌≤◌, Bool, true, false, cond, not, ◌&&◌, ◌||◌, List, [], ◌∷◌, length, take, refl, sym, ap, ◌∙◌, subst, inl, inr, arith, eqb, ltb}
use Rattle.std.specs.List.{Contains, filter}
use Rattle.std.proofs.lemmas.Bool.{cases_Bool, eq-eqb, eqb-true, lt-ltb, ltb-true, true≢false, false≢true}
use Rattle.wx_base.specs.declared.machine.Shape.{Shape}
use Rattle.wx_base.specs.CacheStates.{is_rival, Younger, younger_start, younger_accessed, YoungerCovers, is_kept}
use Rattle.cache_pers.specs.Stays.{younger_along}
use Rattle.cache_flow.specs.declared.flow.Flow.{Flow}
use Rattle.cache_flow.specs.declared.flow.Move.{Move}
use Rattle.cache_flow.specs.Flows.{Part, accesses_of}
use Rattle.cache_flow.specs.Solutions.{younger_at, IsYoungerSolution}
use Rattle.cache_flow.specs.Shown.{IsKept}
use Rattle.cache_sets.specs.Sets.{is_in_set, of_set, IsSetFlow, place_in_set, SetsTellKept}
use Rattle.cache_sets.proofs.SetLemmas.{accesses_in, before_in, apart, no_rival}

-- ---- states that agree at the lines of a set

record Agrees (shape : Shape) (set : ℕ) (x y : Younger) : Type 0 where
  known : (line : ℕ) → is_in_set shape set line ≡ true → x.known line ≡ y.known line
  held : (line other : ℕ) → is_in_set shape set line ≡ true → is_in_set shape set other ≡ true → x.held line other ≡ y.held line other

same_known : (same kx ky : Bool) → kx ≡ ky → (same || kx) ≡ (same || ky)
same_known same kx ky e = λ i. same || e i

same_held : (same hx hy kx ky rival newer : Bool) → hx ≡ hy → kx ≡ ky
    → cond same false (hx || (kx && rival && newer)) ≡ cond same false (hy || (ky && rival && newer))
same_held same hx hy kx ky rival newer e k = λ i. cond same false (e i || (k i && rival && newer))

nothing_held : (h k newer : Bool) → (h || (k && false && newer)) ≡ h
nothing_held true k newer = refl
nothing_held false true newer = refl
nothing_held false false newer = refl

elsewhere_held : (same rival h k newer : Bool) → same ≡ false → rival ≡ false → cond same false (h || (k && rival && newer)) ≡ h
elsewhere_held same rival h k newer e r = (λ i. cond (e i) false (h || (k && r i && newer))) ∙ nothing_held h k newer

step_there : (shape : Shape) (set : ℕ) (x y : Younger) (n : ℕ) → Agrees shape set x y → Agrees shape set (younger_accessed shape x n) (younger_accessed shape y n)
step_there shape set x y n a = record {
  known = λ line h. same_known (eqb line n) (x.known line) (y.known line) (a.known line h);
  held = λ line other h i. same_held (eqb line n) (x.held line other) (y.held line other) (x.known line) (y.known line) (is_rival shape line n) (eqb other n) (a.held line other h i) (a.known line h);
}

step_away : (shape : Shape) (set : ℕ) (x y : Younger) (n : ℕ) → is_in_set shape set n ≡ false → Agrees shape set x y → Agrees shape set (younger_accessed shape x n) y
step_away shape set x y n away a = record {
  known = λ line h. (λ i. apart shape set line n h away i || x.known line) ∙ a.known line h;
  held = λ line other h i.
      elsewhere_held (eqb line n) (is_rival shape line n) (x.held line other) (x.known line) (eqb other n) (apart shape set line n h away) (no_rival shape set line n h away)
      ∙ a.held line other h i;
}

narrowed : (shape : Shape) (set : ℕ) (x y : Younger) (xs : List ℕ) → Agrees shape set x y → Agrees shape set (younger_along shape x xs) (younger_along shape y (of_set shape set xs))
narrowed shape set x y [] a = a
narrowed shape set x y (n ∷ xs) a = elim (cases_Bool (is_in_set shape set n)) [
  | inl there ↦ rw there (narrowed shape set (younger_accessed shape x n) (younger_accessed shape y n) xs (step_there shape set x y n a))
  | inr away ↦ rw away (narrowed shape set (younger_accessed shape x n) y xs (step_away shape set x y n away a))
]

-- ---- nothing of another set is held for a line of the set

abbrev Apart : Shape → ℕ → Younger → Type 0
Apart shape set x = (line other : ℕ) → is_in_set shape set line ≡ true → is_in_set shape set other ≡ false → x.held line other ≡ false

apart_case : (same h k rival newer : Bool) → h ≡ false → (newer ≡ true → rival ≡ false) → cond same false (h || (k && rival && newer)) ≡ false
apart_case true h k rival newer e r = refl
apart_case false true k rival newer e r = absurd (true≢false e)
apart_case false false true true true e r = absurd (true≢false (r refl))
apart_case false false true false true e r = refl
apart_case false false true true false e r = refl
apart_case false false true false false e r = refl
apart_case false false false rival newer e r = refl

stays_apart : (shape : Shape) (set : ℕ) (x : Younger) (xs : List ℕ) → Apart shape set x → Apart shape set (younger_along shape x xs)
stays_apart shape set x [] a = a
stays_apart shape set x (n ∷ xs) a = stays_apart shape set (younger_accessed shape x n) xs (λ line other h away.
    apart_case (eqb line n) (x.held line other) (x.known line) (is_rival shape line n) (eqb other n) (a line other h away)
    (λ e. no_rival shape set line n h (subst (λ k. is_in_set shape set k ≡ false) (eqb-true other n e) away)))

-- ---- states that tell of the set alone

only : Shape → ℕ → (ℕ → Younger) → ℕ → Younger
only shape set states node = record {
  known = λ line. cond (is_in_set shape set line) ((states node).known line) true;
  held = λ line other. cond (is_in_set shape set line) ((states node).held line other && is_in_set shape set other) true;
}

and_true : (a b : Bool) → b ≡ true → (a && b) ≡ a
and_true true b e = e
and_true false b e = refl

and_false : (a b : Bool) → b ≡ false → (a && b) ≡ false
and_false true b e = e
and_false false b e = refl

only_agrees : (shape : Shape) (set : ℕ) (states : ℕ → Younger) (node : ℕ) → Agrees shape set (only shape set states node) (states node)
unfolding only
only_agrees shape set states node = record {
  known = λ line h. λ i. cond (h i) ((states node).known line) true;
  held = λ line other h k. (λ i. cond (h i) ((states node).held line other && is_in_set shape set other) true) ∙ and_true ((states node).held line other) (is_in_set shape set other) k;
}

agrees_back : (shape : Shape) (set : ℕ) (x y : Younger) → Agrees shape set x y → Agrees shape set y x
agrees_back shape set x y a = record { known = λ line h. sym (a.known line h); held = λ line other h i. sym (a.held line other h i) }

only_apart : (shape : Shape) (set : ℕ) (states : ℕ → Younger) (node : ℕ) → Apart shape set (only shape set states node)
unfolding only
only_apart shape set states node line other h away =
    (λ i. cond (h i) ((states node).held line other && is_in_set shape set other) true) ∙ and_false ((states node).held line other) (is_in_set shape set other) away

all_known : (shape : Shape) (set : ℕ) (states : ℕ → Younger) (node line : ℕ) → is_in_set shape set line ≡ false → (only shape set states node).known line ≡ true
unfolding only
all_known shape set states node line away = λ i. cond (away i) ((states node).known line) true

all_held : (shape : Shape) (set : ℕ) (states : ℕ → Younger) (node line other : ℕ) → is_in_set shape set line ≡ false → (only shape set states node).held line other ≡ true
unfolding only
all_held shape set states node line other away = λ i. cond (away i) ((states node).held line other && is_in_set shape set other) true

covers_start : (x : Younger) → YoungerCovers x younger_start
covers_start x = record { known = λ line e. absurd (false≢true e); held = λ line other e k. absurd (false≢true e) }

-- what is known behind all accesses is known behind those to the set
covered : (shape : Shape) (set : ℕ) (target : ℕ) (states : ℕ → Younger) (x y : Younger) → Agrees shape set x y → Apart shape set x → YoungerCovers (states target) y
    → YoungerCovers (only shape set states target) x
covered shape set target states x y a apart_is c = record {
  known = λ line e. elim (cases_Bool (is_in_set shape set line)) [
    | inl h ↦ (only_agrees shape set states target).known line h ∙ c.known line (sym (a.known line h) ∙ e)
    | inr away ↦ all_known shape set states target line away
  ];
  held = λ line other e k. elim (cases_Bool (is_in_set shape set line)) [
    | inl h ↦ elim (cases_Bool (is_in_set shape set other)) [
      | inl i ↦ (only_agrees shape set states target).held line other h i ∙ c.held line other (sym (a.known line h) ∙ e) (sym (a.held line other h i) ∙ k)
      | inr away ↦ absurd (true≢false (sym k ∙ apart_is line other h away))
    ]
    | inr away ↦ all_held shape set states target line other away
  ];
}

module _ (shape : Shape) (set : ℕ) (flow narrow : Flow) (is : IsSetFlow shape set flow narrow) (part : Part) where
  wide : (states : ℕ → Younger) → IsYoungerSolution shape narrow part states → IsYoungerSolution shape flow part (only shape set states)
  wide states s = record {
    head = covers_start (only shape set states part.head);
    moves = λ move there from to.
        let agrees = narrowed shape set (only shape set states move.from) (states move.from) (accesses_of flow move.from) (only_agrees shape set states move.from) in
        let same = accesses_in shape set flow narrow move.from is in
        covered shape set move.to states (younger_along shape (only shape set states move.from) (accesses_of flow move.from)) (younger_along shape (states move.from) (accesses_of narrow move.from))
        (subst (λ xs. Agrees shape set (younger_along shape (only shape set states move.from) (accesses_of flow move.from)) (younger_along shape (states move.from) xs)) (sym same) agrees)
        (stays_apart shape set (only shape set states move.from) (accesses_of flow move.from) (only_apart shape set states move.from))
        (s.moves move (subst (λ ms. Contains ms move) (sym is.moves) there) from to);
  }

  narrow_one : (states : ℕ → Younger) → IsYoungerSolution shape flow part states → IsYoungerSolution shape narrow part (only shape set states)
  narrow_one states s = record {
    head = covers_start (only shape set states part.head);
    moves = λ move there from to.
        let agrees = narrowed shape set (states move.from) (only shape set states move.from) (accesses_of flow move.from) (agrees_back shape set (only shape set states move.from) (states move.from) (only_agrees shape set states move.from)) in
        let same = accesses_in shape set flow narrow move.from is in
        covered shape set move.to states (younger_along shape (only shape set states move.from) (accesses_of narrow move.from)) (younger_along shape (states move.from) (accesses_of flow move.from))
        (agrees_back shape set (younger_along shape (states move.from) (accesses_of flow move.from)) (younger_along shape (only shape set states move.from) (accesses_of narrow move.from))
        (subst (λ xs. Agrees shape set (younger_along shape (states move.from) (accesses_of flow move.from)) (younger_along shape (only shape set states move.from) xs)) (sym same) agrees))
        (stays_apart shape set (only shape set states move.from) (accesses_of narrow move.from) (only_apart shape set states move.from))
        (s.moves move (subst (λ ms. Contains ms move) is.moves there) from to);
  }

-- ---- how many lines are held

same_size : (p q r : ℕ → Bool) (xs : List ℕ) → ((x : ℕ) → r x ≡ true → p x ≡ q x) → ((x : ℕ) → r x ≡ false → p x ≡ false)
    → length (filter p xs) ≡ length (filter q (filter r xs))
same_size p q r [] s n = refl
same_size p q r (x ∷ xs) s n = elim (cases_Bool (r x)) [
  | inl e ↦ elim (cases_Bool (q x)) [
    | inl f ↦ rw (e, s x e, f) (ap suc (same_size p q r xs s n))
    | inr f ↦ rw (e, s x e, f) (same_size p q r xs s n)
  ]
  | inr e ↦ rw (e, n x e) (same_size p q r xs s n)
]

no_larger : (p q r : ℕ → Bool) (xs : List ℕ) → ((x : ℕ) → r x ≡ true → p x ≡ q x) → length (filter q (filter r xs)) ≤ length (filter p xs)
no_larger p q r [] s = omega arith
no_larger p q r (x ∷ xs) s = elim (cases_Bool (r x)) [
  | inl e ↦ elim (cases_Bool (q x)) [
    | inl f ↦ rw (e, s x e, f) (omega (arith, no_larger p q r xs s))
    | inr f ↦ rw (e, s x e, f) (no_larger p q r xs s)
  ]
  | inr e ↦ elim (cases_Bool (p x)) [
    | inl f ↦ rw (e, f) (omega (arith, no_larger p q r xs s))
    | inr f ↦ rw (e, f) (no_larger p q r xs s)
  ]
]

kept_for : (known other_known : Bool) (size other ways : ℕ) → known ≡ other_known → other ≤ size → (not known || ltb size ways) ≡ true → (not other_known || ltb other ways) ≡ true
kept_for known true size other ways e le kept = lt-ltb other ways (omega (arith, le, ltb-true size ways (subst (λ b. (not b || ltb size ways) ≡ true) e kept)))
kept_for known false size other ways e le kept = refl

module _ (shape : Shape) (set : ℕ) (flow narrow : Flow) (is : IsSetFlow shape set flow narrow) (part : Part) (node place line : ℕ) (h : is_in_set shape set line ≡ true) where
  kept_narrow : IsKept shape flow part node place line → IsKept shape narrow part node (place_in_set shape set flow node place) line
  kept_narrow kept =
      let x = younger_at shape flow kept.states node place in
      let y = younger_along shape (only shape set kept.states node) (of_set shape set (take place (accesses_of flow node))) in
      let agrees : Agrees shape set x y = narrowed shape set (kept.states node) (only shape set kept.states node) (take place (accesses_of flow node))
      (agrees_back shape set (only shape set kept.states node) (kept.states node) (only_agrees shape set kept.states node)) in
      let less = no_larger (x.held line) (y.held line) (is_in_set shape set) flow.lines (λ other i. agrees.held line other h i) in
      let there : is_kept shape (of_set shape set flow.lines) y line ≡ true =
      kept_for (x.known line) (y.known line) (length (filter (x.held line) flow.lines)) (length (filter (y.held line) (of_set shape set flow.lines))) shape.ways (agrees.known line h) less kept.kept in
      record {
        states = only shape set kept.states;
        solution = narrow_one shape set flow narrow is part kept.states kept.solution;
        kept = subst (λ ls. is_kept shape ls (younger_at shape narrow (only shape set kept.states) node (place_in_set shape set flow node place)) line ≡ true) (sym is.lines)
            (subst (λ xs. is_kept shape (of_set shape set flow.lines) (younger_along shape (only shape set kept.states node) xs) line ≡ true) (sym (before_in shape set flow narrow node place is)) there);
      }

  kept_wide : IsKept shape narrow part node (place_in_set shape set flow node place) line → IsKept shape flow part node place line
  kept_wide kept =
      let x = younger_at shape flow (only shape set kept.states) node place in
      let y = younger_along shape (kept.states node) (of_set shape set (take place (accesses_of flow node))) in
      let agrees : Agrees shape set x y = narrowed shape set (only shape set kept.states node) (kept.states node) (take place (accesses_of flow node)) (only_agrees shape set kept.states node) in
      let alone = stays_apart shape set (only shape set kept.states node) (take place (accesses_of flow node)) (only_apart shape set kept.states node) in
      let same = same_size (x.held line) (y.held line) (is_in_set shape set) flow.lines (λ other i. agrees.held line other h i) (λ other away. alone line other h away) in
      let there : is_kept shape (of_set shape set flow.lines) y line ≡ true =
      subst (λ xs. is_kept shape (of_set shape set flow.lines) (younger_along shape (kept.states node) xs) line ≡ true) (before_in shape set flow narrow node place is)
      (subst (λ ls. is_kept shape ls (younger_at shape narrow kept.states node (place_in_set shape set flow node place)) line ≡ true) is.lines kept.kept) in
      record {
        states = only shape set kept.states;
        solution = wide shape set flow narrow is part kept.states kept.solution;
        kept = kept_for (y.known line) (x.known line) (length (filter (y.held line) (of_set shape set flow.lines))) (length (filter (x.held line) flow.lines)) shape.ways
            (sym (agrees.known line h)) (omega (arith, same)) there;
      }

pub kept_in_sets : SetsTellKept
kept_in_sets shape set flow narrow part node place line is h = (
  kept_narrow shape set flow narrow is part node place line h,
  kept_wide shape set flow narrow is part node place line h,
)
