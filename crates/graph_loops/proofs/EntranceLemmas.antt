-- The head of a loop is on every way into it, and loops that share a vertex are nested.
use Rattle.std.proofs.Common.{◌≡◌, ℕ, List, [], ◌∷◌, ◌∙◌, refl, sym, subst, inl, inr, arith}
use Rattle.std.specs.Prelude.{◌⊎◌, ◌↔◌}
use Rattle.std.proofs.lemmas.Bool.{cases_eq}
use Rattle.std.proofs.lemmas.List.Elements.{Contains-append_cases}
use Rattle.std.specs.List.{Contains}
use Rattle.wx_base.specs.Paths.{Path, IsBackEdge, IsHead, IsMember}
use Rattle.wx_base.specs.Paths.Path.{here, further}
use Rattle.graph_loops.specs.Laws.{IsInLoop, IsEntered}
use Rattle.graph_loops.proofs.Places.{none_there, the_one, is_the_one}
use Rattle.graph_loops.proofs.PathLemmas.{ends_free, one_more, joined, avoids_less, first_comes}

-- a vertex other than the one that is avoided
pub off : (head a : ℕ) → (a ≡ head → ⊥) → Contains (head ∷ []) a → ⊥
off head a apart k = apart (sym (the_one head a k))

-- a vertex that is neither of two
off_both : (g h a : ℕ) → (a ≡ g → ⊥) → (a ≡ h → ⊥) → Contains (g ∷ h ∷ []) a → ⊥
off_both g h a not_g not_h k = elim (Contains-append_cases (g ∷ []) (h ∷ []) a k) [ inl l ↦ off g a not_g l | inr l ↦ off h a not_h l ]

module _ (leads : ℕ → List ℕ) (entry : ℕ) where
  pub head_reached : (head : ℕ) → IsHead leads entry head → Path leads [] entry head
  head_reached head h = one_more leads [] h.back.reached h.back.edge (none_there head)

  pub member_reached : (head a : ℕ) → IsHead leads entry head → IsMember leads entry head a → Path leads [] entry a
  member_reached head a h (inl e) = subst (λ (x : ℕ). Path leads [] entry x) (sym e) (head_reached head h)
  member_reached head a h (inr i) = i.reached

  -- no path without the head ends in it
  not_to : (head a b : ℕ) → b ≡ head → Path leads (head ∷ []) a b → ⊥
  not_to head a b e p = ends_free leads (head ∷ []) p (subst (λ (x : ℕ). Contains (head ∷ []) x) (sym e) (is_the_one head))

  pub heads_are_on_paths : (head a : ℕ) → IsMember leads entry head a → Path leads (head ∷ []) entry a → ⊥
  heads_are_on_paths head a (inl e) p = not_to head entry a e p
  heads_are_on_paths head a (inr i) p = i.back.through (joined leads (head ∷ []) p i.path)

  pub back_from_member : (head a : ℕ) → IsHead leads entry head → Contains (leads a) head → IsMember leads entry head a → IsBackEdge leads entry a head
  back_from_member head a h edge m = record { reached = member_reached head a h m; edge = edge; through = heads_are_on_paths head a m }

  pub member_of_back : (head a : ℕ) → IsBackEdge leads entry a head → IsMember leads entry head a
  member_of_back head a b = elim (cases_eq a head) [
    | inl e ↦ inl e
    | inr apart ↦ inr (record { reached = b.reached; source = a; back = b; path = here a (off head a apart) })
  ]

  pub back_edges_come_from_members : (head a : ℕ) → IsHead leads entry head → Contains (leads a) head → IsBackEdge leads entry a head ↔ IsMember leads entry head a
  back_edges_come_from_members head a h edge = (member_of_back head a, back_from_member head a h edge)

  -- a vertex that is reached and leads to a member without the head is a member
  pub member_before : (head a b : ℕ) → Path leads [] entry a → Path leads (head ∷ []) a b → IsMember leads entry head b → IsMember leads entry head a
  member_before head a b r p (inl e) = absurd (not_to head a b e p)
  member_before head a b r p (inr i) = inr (record { reached = r; source = i.source; back = i.back; path = joined leads (head ∷ []) p i.path })

  pub ways_in_have_heads : (head a b : ℕ) → Path leads [] entry a → (IsMember leads entry head a → ⊥) → IsMember leads entry head b → Path leads (head ∷ []) a b → ⊥
  ways_in_have_heads head a b r outside m p = outside (member_before head a b r p m)

  pub entered_at_heads : (head a b : ℕ) → Path leads [] entry a → (IsMember leads entry head a → ⊥) → IsMember leads entry head b → Contains (leads a) b → b ≡ head
  entered_at_heads head a b r outside m edge = elim (cases_eq b head) [
    | inl e ↦ e
    | inr apart ↦ absurd (ways_in_have_heads head a b r outside m (further (off head a (λ e. outside (inl e))) edge (here b (off head b apart))))
  ]

  -- ---- two heads

  -- which of two vertices is last on a path, if any of them is on it
  abbrev LastOf : ℕ → ℕ → ℕ → ℕ → Type 0
  LastOf g h a b = Path leads (h ∷ []) g b ⊎ (Path leads (g ∷ []) h b ⊎ Path leads (g ∷ h ∷ []) a b)

  without_first : (g h : ℕ) {a b : ℕ} → Path leads (g ∷ h ∷ []) a b → Path leads (h ∷ []) a b
  without_first g h p = avoids_less leads (g ∷ h ∷ []) (h ∷ []) (λ v k. off_first v k) p
    where
      off_first : (v : ℕ) → Contains (h ∷ []) v → Contains (g ∷ h ∷ []) v
      off_first v k = subst (λ (x : ℕ). Contains (g ∷ h ∷ []) x) (the_one h v k) (1, omega arith, refl)

  without_second : (g h : ℕ) {a b : ℕ} → Path leads (g ∷ h ∷ []) a b → Path leads (g ∷ []) a b
  without_second g h p = avoids_less leads (g ∷ h ∷ []) (g ∷ []) (λ v k. on_first v k) p
    where
      on_first : (v : ℕ) → Contains (g ∷ []) v → Contains (g ∷ h ∷ []) v
      on_first v k = subst (λ (x : ℕ). Contains (g ∷ h ∷ []) x) (the_one g v k) (0, omega arith, refl)

  -- the path begins at a vertex, behind which stands a path that meets neither
  at_start : (g h a b : ℕ) → ((a ≡ g → ⊥) → (a ≡ h → ⊥) → Path leads (g ∷ h ∷ []) a b) → ((a ≡ g) → (a ≡ h → ⊥) → Path leads (h ∷ []) a b)
      → ((a ≡ h) → (a ≡ g → ⊥) → Path leads (g ∷ []) a b) → (g ≡ h → ⊥) → LastOf g h a b
  at_start g h a b neither from_g from_h two = elim (cases_eq a g) [
    | inl e ↦ inl (subst (λ (x : ℕ). Path leads (h ∷ []) x b) e (from_g e (λ f. two (sym e ∙ f))))
    | inr not_g ↦ elim (cases_eq a h) [
      | inl e ↦ inr (inl (subst (λ (x : ℕ). Path leads (g ∷ []) x b) e (from_h e not_g)))
      | inr not_h ↦ inr (inr (neither not_g not_h))
    ]
  ]

  last_of : (g h : ℕ) (avoided : List ℕ) {a b : ℕ} → (g ≡ h → ⊥) → Path leads avoided a b → LastOf g h a b
  last_of g h avoided two (here a n) =
      at_start g h a a (λ not_g not_h. here a (off_both g h a not_g not_h)) (λ e not_h. here a (off h a not_h)) (λ e not_g. here a (off g a not_g)) two
  last_of g h avoided {a} two (further {b = b} {c = c} n edge p) = elim (last_of g h avoided {a = b} {b = c} two p) [
    | inl q ↦ inl q
    | inr (inl q) ↦ inr (inl q)
    | inr (inr q) ↦ at_start g h a c
        (λ not_g not_h. further (off_both g h a not_g not_h) edge q)
        (λ e not_h. further (off h a not_h) edge (without_first g h q))
        (λ e not_g. further (off g a not_g) edge (without_second g h q)) two
  ]

  -- which of two vertices is first on a path to one of them
  first_of : (g h : ℕ) {a b : ℕ} → (g ≡ h → ⊥) → b ≡ g → Path leads [] a b → Path leads (h ∷ []) a b ⊎ Path leads (g ∷ []) a h
  first_of g h two e (here a n) = inl (here a (off h a (λ f. two (sym e ∙ f))))
  first_of g h {a} two e (further {b = b} {c = c} n edge p) = elim (cases_eq a h) [
    | inl f ↦ inr (subst (λ (x : ℕ). Path leads (g ∷ []) x h) (sym f) (here h (off g h (λ k. two (sym k)))))
    | inr not_h ↦ elim (first_of g h {a = b} {b = c} two e p) [
      | inl q ↦ inl (further (off h a not_h) edge q)
      | inr q ↦ elim (cases_eq a g) [
        | inl f ↦ inl (subst (λ (x : ℕ). Path leads (h ∷ []) x c) (sym (f ∙ sym e)) (here c (off h c (λ k. two (sym e ∙ k)))))
        | inr not_g ↦ inr (further (off g a not_g) edge q)
      ]
    ]
  ]

  -- of two heads not each is in the loop of the other
  not_both : (g h : ℕ) → (g ≡ h → ⊥) → IsHead leads entry g → IsMember leads entry h g → IsMember leads entry g h → ⊥
  not_both g h two is_g in_h in_g = elim (first_of g h {a = entry} {b = g} two refl (head_reached g is_g)) [
    | inl p ↦ heads_are_on_paths h g in_h p
    | inr p ↦ heads_are_on_paths g h in_g p
  ]

  -- a path either does not meet a vertex, or goes on from there
  meets : (avoided : List ℕ) (h : ℕ) {a b : ℕ} → Path leads avoided a b → Path leads (h ∷ []) a b ⊎ Path leads avoided h b
  meets avoided h (here a n) = elim (cases_eq a h) [
    | inl e ↦ inr (subst (λ (x : ℕ). Path leads avoided x a) e (here a n))
    | inr apart ↦ inl (here a (off h a apart))
  ]
  meets avoided h {a} (further {b = b} {c = c} n edge p) = elim (meets avoided h {a = b} {b = c} p) [
    | inr q ↦ inr q
    | inl q ↦ elim (cases_eq a h) [
      | inl e ↦ inr (subst (λ (x : ℕ). Path leads avoided x c) e (further n edge p))
      | inr apart ↦ inl (further (off h a apart) edge q)
    ]
  ]

  -- a loop whose head is in another loop is in that loop
  inside : (g h : ℕ) → (g ≡ h → ⊥) → IsHead leads entry g → IsHead leads entry h → IsMember leads entry h g
      → (a : ℕ) → IsMember leads entry g a → IsMember leads entry h a
  inside g h two is_g is_h in_h a (inl e) = subst (λ (x : ℕ). IsMember leads entry h x) (sym e) in_h
  inside g h two is_g is_h in_h a (inr i) = elim (meets (g ∷ []) h {a = a} {b = i.source} i.path) [
    | inl p ↦
        let free : Contains (h ∷ []) i.source → ⊥ = ends_free leads (h ∷ []) p in
        let on : Path leads (h ∷ []) i.source g = further free i.back.edge (here g (off h g two)) in
        member_before h a g i.reached (joined leads (h ∷ []) p on) in_h
    | inr p ↦ absurd (not_both g h two is_g in_h (member_before g h i.source (head_reached h is_h) p (member_of_back g i.source i.back)))
  ]

  pub nested : (g h a : ℕ) → IsHead leads entry g → IsHead leads entry h → IsMember leads entry g a → IsMember leads entry h a
      → IsInLoop leads entry g h ⊎ IsInLoop leads entry h g
  nested g h a is_g is_h in_g in_h = elim (cases_eq g h) [
    | inl e ↦ inl (record { members = λ x m. subst (λ (k : ℕ). IsMember leads entry k x) e m })
    | inr two ↦ elim (last_of g h [] {a = entry} {b = a} two (member_reached g a is_g in_g)) [
      | inl p ↦ inl (record { members = inside g h two is_g is_h (member_before h g a (head_reached g is_g) p in_h) })
      | inr (inl p) ↦ inr (record { members = inside h g (λ e. two (sym e)) is_h is_g (member_before g h a (head_reached h is_h) p in_g) })
      | inr (inr p) ↦ absurd (heads_are_on_paths g a in_g (without_second g h p))
    ]
  ]

  -- ---- edges that are the only ones of their vertices

  -- a path from a vertex with one edge goes on along it, unless it ends there
  after_single : (a b : ℕ) → ((c : ℕ) → Contains (leads a) c → c ≡ b) → (avoided : List ℕ) {c : ℕ} → Path leads avoided a c → (c ≡ a) ⊎ Path leads avoided b c
  after_single a b single avoided (here x n) = inl refl
  after_single a b single avoided {c} (further {b = x} n e p) = inr (subst (λ (y : ℕ). Path leads avoided y c) (single x e) p)

  -- where a path leaves a vertex for the last time, if it is ever there
  record IsLeft (h c : ℕ) : Type 0 where
    next : ℕ
    edge : Contains (leads h) next
    path : Path leads (h ∷ []) next c

  last_leave : (h : ℕ) (avoided : List ℕ) {a c : ℕ} → (c ≡ h → ⊥) → Path leads avoided a c → Path leads (h ∷ []) a c ⊎ IsLeft h c
  last_leave h avoided apart (here a n) = inl (here a (off h a apart))
  last_leave h avoided {a} apart (further {b = b} {c = c} n e p) = elim (last_leave h avoided {a = b} {c = c} apart p) [
    | inr l ↦ inr l
    | inl q ↦ elim (cases_eq a h) [
      | inl is ↦ inr (record { next = b; edge = subst (λ (x : ℕ). Contains (leads x) b) is e; path = q })
      | inr other ↦ inl (further (off h a other) e q)
    ]
  ]

  module _ (head a b : ℕ) (h : IsHead leads entry head) (reached : Path leads [] entry a) (edge : Contains (leads a) b)
      (single : (c : ℕ) → Contains (leads a) c → c ≡ b) (apart : b ≡ head → ⊥) where
    next_reached : Path leads [] entry b
    next_reached = one_more leads [] reached edge (none_there b)

    from_head : a ≡ head → (IsMember leads entry head b)
    from_head e =
        let source_apart = λ (f : h.source ≡ head). apart (sym (single head (subst (λ (x : ℕ). Contains (leads x) head) (f ∙ sym e) h.back.edge))) in
        elim (last_leave head [] {a = entry} {c = h.source} source_apart h.back.reached) [
          | inl p ↦ absurd (h.back.through p)
          | inr l ↦
              let is : l.next ≡ b = single l.next (subst (λ (x : ℕ). Contains (leads x) l.next) (sym e) l.edge) in
              inr (record { reached = next_reached; source = h.source; back = h.back; path = subst (λ (x : ℕ). Path leads (head ∷ []) x h.source) is l.path })
        ]

    member_behind : IsMember leads entry head a → IsMember leads entry head b
    member_behind (inl e) = from_head e
    member_behind (inr i) = elim (after_single a b single (head ∷ []) {c = i.source} i.path) [
      | inl e ↦ absurd (apart (sym (single head (subst (λ (x : ℕ). Contains (leads x) head) e i.back.edge))))
      | inr p ↦ inr (record { reached = next_reached; source = i.source; back = i.back; path = p })
    ]

    member_in_front : IsMember leads entry head b → IsMember leads entry head a
    member_in_front m = elim (cases_eq a head) [
      | inl e ↦ inl e
      | inr other ↦ member_before head a b reached (further (off head a other) edge (here b (off head b apart))) m
    ]

    pub single_keeps : IsMember leads entry head a ↔ IsMember leads entry head b
    single_keeps = (member_behind, member_in_front)

  pub entered : (head : ℕ) → IsHead leads entry head → (head ≡ entry) ⊎ IsEntered leads entry head
  entered head h = elim (cases_eq head entry) [
    | inl e ↦ inl e
    | inr other ↦
        let first = first_comes leads head {a = entry} {b = h.source} (λ e. other (sym e)) h.back.reached h.back.through in
        inr (record { source = first.before; path = first.path; edge = first.edge })
  ]
