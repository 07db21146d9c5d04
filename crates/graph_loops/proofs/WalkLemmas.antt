-- How a walk begins, goes on and ends.
use Rattle.std.proofs.Common.{◌≡◌, ℕ, ◌+◌, ◌<◌, ◌≤◌, Bool, true, false, List, [], ◌∷◌, ◌++◌, length, get_or, set, take, replicate, refl, sym, ap, subst, ◌∙◌, inl, inr, arith, append_assoc, append-nil, get_or-set_same, get_or-set_other}
use Rattle.std.specs.Prelude.{◌⊎◌}
use Rattle.std.proofs.lemmas.Bool.{cases_eq, cases_lt, false≢true}
use Rattle.std.proofs.lemmas.List.{get_or_default, get_or_append_left, take_more, get_or-replicate, get_or_past, length-replicate}
use Rattle.std.proofs.lemmas.List.Elements.{Contains-push, Contains-push_cases, Contains-append_left, Contains-append_right, Contains-append_cases}
use Rattle.std.specs.List.{Contains}
use Rattle.wx_base.specs.Paths.{Path}
use Rattle.wx_base.specs.Paths.Path.{here, further}
use Rattle.graph_loops.specs.Graph.{edges, AreReached, AreVertices, IsGraph, IsReached}
use Rattle.graph_loops.specs.Walk.{AreMarked, CameTo}
use Rattle.graph_loops.proofs.Places.{none_there, the_one, there_too, same_there}
use Rattle.graph_loops.proofs.PathLemmas.{one_more, starts_free, reached_within}

-- ---- vertices come to

pub came_none : (queue avoided : List ℕ) → CameTo queue queue avoided []
came_none queue avoided = record {
  more = [];
  grown = sym (append-nil queue);
  only = λ v h. h;
  free = λ v h. absurd (none_there v h);
  each = λ v h. absurd (none_there v h);
}

-- a vertex that is avoided or come to before
pub came_before : (queue avoided : List ℕ) (v : ℕ) → (Contains avoided v ⊎ Contains queue v) → CameTo queue queue avoided (v ∷ [])
came_before queue avoided v known = record {
  more = [];
  grown = sym (append-nil queue);
  only = λ u h. absurd (none_there u h);
  free = λ u h. absurd (none_there u h);
  each = λ u h n. elim known [
    | inl a ↦ absurd (n (same_there avoided v u (the_one v u h) a))
    | inr q ↦ same_there queue v u (the_one v u h) q
  ];
}

pub came_new : (queue avoided : List ℕ) (v : ℕ) → (Contains avoided v → ⊥) → CameTo queue (queue ++ v ∷ []) avoided (v ∷ [])
came_new queue avoided v n = record {
  more = v ∷ [];
  grown = refl;
  only = λ u h. h;
  free = λ u h a. n (same_there avoided u v (sym (the_one v u h)) a);
  each = λ u h _. same_there (queue ++ v ∷ []) v u (the_one v u h) (Contains-push queue v);
}

pub came_both : (before between after avoided xs ys : List ℕ) → CameTo before between avoided xs → CameTo between after avoided ys → CameTo before after avoided (xs ++ ys)
came_both before between after avoided xs ys f g = record {
  more = f.more ++ g.more;
  grown = g.grown ∙ ap (λ (q : List ℕ). q ++ g.more) f.grown ∙ append_assoc before f.more g.more;
  only = λ v h. elim (Contains-append_cases f.more g.more v h) [
    | inl l ↦ Contains-append_left xs ys v (f.only v l)
    | inr r ↦ Contains-append_right xs ys v (g.only v r)
  ];
  free = λ v h. elim (Contains-append_cases f.more g.more v h) [ inl l ↦ f.free v l | inr r ↦ g.free v r ];
  each = λ v h n. elim (Contains-append_cases xs ys v h) [
    | inl l ↦ there_too (between ++ g.more) after v (sym g.grown) (Contains-append_left between g.more v (f.each v l n))
    | inr r ↦ g.each v r n
  ];
}

pub came_more : (before between after avoided xs : List ℕ) (i : ℕ) → i < length xs → CameTo before between avoided (take i xs) → CameTo between after avoided (get_or xs i 0 ∷ []) → CameTo before after avoided (take (i + 1) xs)
came_more before between after avoided xs i h f g =
    subst (λ (zs : List ℕ). CameTo before after avoided zs) (sym (take_more xs i 0 h)) (came_both before between after avoided (take i xs) (get_or xs i 0 ∷ []) f g)

-- ---- marks

pub marked_none : (n : ℕ) → AreMarked (replicate n false) []
marked_none n = record { exact = λ v. (λ h. absurd (false≢true (sym (all_false v) ∙ h)), λ h. absurd (none_there v h)) }
  where
    all_false : (v : ℕ) → get_or (replicate n false) v false ≡ false
    all_false v = elim (cases_lt v n) [
      | inl l ↦ get_or-replicate n v false false l
      | inr p ↦ get_or_past (replicate n false) v false (rw length-replicate p)
    ]

pub marked_more : (marks : List Bool) (queue : List ℕ) (v : ℕ) → v < length marks → AreMarked marks queue → AreMarked (set marks v true) (queue ++ v ∷ [])
marked_more marks queue v l m = record {
  exact = λ u. elim (cases_eq u v) [
    | inl e ↦ (λ _. same_there (queue ++ v ∷ []) v u (sym e) (Contains-push queue v), λ _. subst (λ (x : ℕ). get_or (set marks v true) x false ≡ true) (sym e) (get_or-set_same marks v true false l))
    | inr ne ↦ (
      λ h. Contains-append_left queue (v ∷ []) u ((m.exact u).0 (sym (get_or-set_other marks v u true false ne) ∙ h)),
      λ h. get_or-set_other marks v u true false ne ∙ (m.exact u).1 (elim (Contains-push_cases queue v u h) [ inl q ↦ q | inr e ↦ absurd (ne (sym e)) ]),
    )
  ];
}

-- ---- a walk

-- what is known when the edges of the first i in the queue were followed
pub record Walked (lists : List (List ℕ)) (avoided roots : List ℕ) (i : ℕ) (queue : List ℕ) : Type 0 where
  pub sound : (v : ℕ) → Contains queue v → IsReached lists avoided roots v
  pub begun : (r : ℕ) → Contains roots r → (Contains avoided r → ⊥) → Contains queue r
  pub followed : (k : ℕ) → k < i → (v : ℕ) → Contains (edges lists (get_or queue k 0)) v → (Contains avoided v → ⊥) → Contains queue v

pub walk_begins : (lists : List (List ℕ)) (avoided roots queue : List ℕ) → CameTo [] queue avoided roots → Walked lists avoided roots 0 queue
walk_begins lists avoided roots queue c = record {
  sound = λ v h. let m : Contains c.more v = there_too queue c.more v c.grown h in record { root = v; listed = c.only v m; path = here v (c.free v m) };
  begun = λ r h n. c.each r h n;
  followed = λ k h. absurd (omega arith);
}

module _ (lists : List (List ℕ)) (avoided roots : List ℕ) (i : ℕ) (queue : List ℕ) (w : Walked lists avoided roots i queue) where
  pub walk_goes_on : (after : List ℕ) → i < length queue → CameTo queue after avoided (edges lists (get_or queue i 0)) → Walked lists avoided roots (i + 1) after
  walk_goes_on after l c = record {
    sound = λ v h. elim (Contains-append_cases queue c.more v (there_too after (queue ++ c.more) v c.grown h)) [
      | inl q ↦ w.sound v q
      | inr m ↦
          let at : Contains queue (get_or queue i 0) = (i, l, get_or_default queue i (get_or queue i 0) 0 l) in
          let r = w.sound (get_or queue i 0) at in
          record { root = r.root; listed = r.listed; path = one_more (edges lists) avoided r.path (c.only v m) (c.free v m) }
    ];
    begun = λ r h n. kept r (w.begun r h n);
    followed = λ k h v e n. elim (cases_eq k i) [
      | inl is ↦ c.each v (subst (λ (x : ℕ). Contains (edges lists x) v) (same k (omega arith) ∙ ap (λ (x : ℕ). get_or queue x 0) is) e) n
      | inr ne ↦ kept v (w.followed k (omega arith) v (subst (λ (x : ℕ). Contains (edges lists x) v) (same k (omega arith)) e) n)
    ];
  }
    where
      kept : (v : ℕ) → Contains queue v → Contains after v
      kept v h = there_too (queue ++ c.more) after v (sym c.grown) (Contains-append_left queue c.more v h)

      same : (k : ℕ) → k < length queue → get_or after k 0 ≡ get_or queue k 0
      same k h = ap (λ (q : List ℕ). get_or q k 0) c.grown ∙ get_or_append_left queue c.more 0 k h

  -- all that a path leads to from the queue is in it
  pub led_to : length queue ≤ i → {a b : ℕ} → Path (edges lists) avoided a b → Contains queue a → Contains queue b
  led_to whole (here a n) h = h
  led_to whole {a} (further {b = b} n e p) h =
      let is : get_or queue h.0 0 ≡ a = get_or_default queue h.0 0 a h.1 ∙ h.2 in
      led_to whole p (w.followed h.0 (omega (arith, h.1)) b (subst (λ (x : ℕ). Contains (edges lists x) b) (sym is) e) (starts_free (edges lists) avoided p))

  pub walk_ends : (marks : List Bool) → length queue ≤ i → length marks ≡ length lists → AreMarked marks queue → AreReached lists avoided roots marks
  walk_ends marks whole n m = record {
    count = n;
    exact = λ v. (
      λ h. w.sound v ((m.exact v).0 h),
      λ h. (m.exact v).1 (led_to whole h.path (w.begun h.root h.listed (starts_free (edges lists) avoided h.path))),
    );
  }

-- the vertex at a place of the queue is one of the graph's
pub queue_within : (lists : List (List ℕ)) (avoided roots : List ℕ) (i : ℕ) (queue : List ℕ) (n v : ℕ) → n ≡ length lists → IsGraph lists → AreVertices n roots → Walked lists avoided roots i queue → i < length queue → v ≡ get_or queue i 0 → v < n
queue_within lists avoided roots i queue n v e g r w l is =
    let r' : AreVertices (length lists) roots = subst (λ (m : ℕ). AreVertices m roots) e r in
    let at : Contains queue v = (i, l, get_or_default queue i v 0 l ∙ sym is) in
    subst (λ (m : ℕ). v < m) (sym e) (reached_within lists avoided roots v g r' (w.sound v at))

-- and so are those that it leads to
pub targets_within : (lists : List (List ℕ)) (n v : ℕ) (targets : List ℕ) → n ≡ length lists → IsGraph lists → edges lists v ≡ targets → AreVertices n targets
targets_within lists n v targets e g is = record { within = λ u h. subst (λ (m : ℕ). u < m) (sym e) (g.within v u (there_too targets (edges lists v) u (sym is) h)) }
