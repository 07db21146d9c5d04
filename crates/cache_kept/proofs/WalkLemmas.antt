-- How a walk over the nodes of a part begins, goes on and ends.
use Rattle.std.proofs.Common.{◌≡◌, ℕ, ◌+◌, ◌<◌, ◌≤◌, Bool, true, false, List, [], ◌∷◌, ◌++◌, length, get_or, set, take, replicate, refl, sym, ap, subst, ◌∙◌, inl, inr, arith, append_assoc, append-nil, get_or-set_same, get_or-set_other}
use Rattle.std.specs.List.{Contains}
use Rattle.std.specs.Global.{Vec}
use Rattle.std.proofs.lemmas.Bool.{cases_eq, cases_lt, false≢true}
use Rattle.std.proofs.lemmas.List.{get_or_default, get_or_append_left, get_or-replicate, get_or_past, length-replicate, take_all, take_more}
use Rattle.std.proofs.lemmas.List.Elements.{Contains-append_cases, Contains-append_left, Contains-append_right, Contains-push, Contains-push_cases}
use Rattle.cache_kept.specs.Walk.{is_marked, AreMarked, AreSpread, CameTo}
use Rattle.cache_kept.specs.Ways.{list_at}
use Rattle.cache_kept.proofs.Lists.{none_there, the_one, there_too, same_there}

-- ---- nodes come to

pub came_none : (queue : List ℕ) (inside : List Bool) → CameTo queue queue inside []
came_none queue inside = record {
  more = [];
  grown = sym (append-nil queue);
  only = λ v h. h;
  within = λ v h. absurd (none_there v h);
  each = λ v h. absurd (none_there v h);
}

-- a node outside
pub came_outside : (queue : List ℕ) (inside : List Bool) (v : ℕ) → is_marked inside v ≡ false → CameTo queue queue inside (v ∷ [])
came_outside queue inside v out = record {
  more = [];
  grown = sym (append-nil queue);
  only = λ u h. absurd (none_there u h);
  within = λ u h. absurd (none_there u h);
  each = λ u h n. absurd (false≢true (sym out ∙ ap (is_marked inside) (the_one v u h) ∙ n));
}

-- a node that is there
pub came_before : (queue : List ℕ) (inside : List Bool) (v : ℕ) → Contains queue v → CameTo queue queue inside (v ∷ [])
came_before queue inside v known = record {
  more = [];
  grown = sym (append-nil queue);
  only = λ u h. absurd (none_there u h);
  within = λ u h. absurd (none_there u h);
  each = λ u h n. same_there queue v u (the_one v u h) known;
}

pub came_new : (queue : List ℕ) (inside : List Bool) (v : ℕ) → is_marked inside v ≡ true → CameTo queue (queue ++ v ∷ []) inside (v ∷ [])
came_new queue inside v n = record {
  more = v ∷ [];
  grown = refl;
  only = λ u h. h;
  within = λ u h. subst (λ (w : ℕ). is_marked inside w ≡ true) (the_one v u h) n;
  each = λ u h _. same_there (queue ++ v ∷ []) v u (the_one v u h) (Contains-push queue v);
}

came_both : (before between after : List ℕ) (inside : List Bool) (xs ys : List ℕ) → CameTo before between inside xs → CameTo between after inside ys → CameTo before after inside (xs ++ ys)
came_both before between after inside xs ys f g = record {
  more = f.more ++ g.more;
  grown = g.grown ∙ ap (λ (q : List ℕ). q ++ g.more) f.grown ∙ append_assoc before f.more g.more;
  only = λ v h. elim (Contains-append_cases f.more g.more v h) [
    | inl l ↦ Contains-append_left xs ys v (f.only v l)
    | inr r ↦ Contains-append_right xs ys v (g.only v r)
  ];
  within = λ v h. elim (Contains-append_cases f.more g.more v h) [ inl l ↦ f.within v l | inr r ↦ g.within v r ];
  each = λ v h n. elim (Contains-append_cases xs ys v h) [
    | inl l ↦ there_too (between ++ g.more) after v (sym g.grown) (Contains-append_left between g.more v (f.each v l n))
    | inr r ↦ g.each v r n
  ];
}

pub came_more : (before between after : List ℕ) (inside : List Bool) (xs : List ℕ) (i : ℕ) → i < length xs → CameTo before between inside (take i xs)
    → CameTo between after inside (get_or xs i 0 ∷ []) → CameTo before after inside (take (i + 1) xs)
came_more before between after inside xs i h f g =
    subst (λ (zs : List ℕ). CameTo before after inside zs) (sym (take_more xs i 0 h)) (came_both before between after inside (take i xs) (get_or xs i 0 ∷ []) f g)

pub came_all : (before after : List ℕ) (inside : List Bool) (xs : List ℕ) (i : ℕ) → length xs ≤ i → CameTo before after inside (take i xs) → CameTo before after inside xs
came_all before after inside xs i end c = subst (λ (zs : List ℕ). CameTo before after inside zs) (take_all i xs end) c

-- ---- marks

pub marked_none : (n : ℕ) → AreMarked (replicate n false) []
marked_none n = record { exact = λ v. (λ h. absurd (false≢true (sym (all_false v) ∙ h)), λ h. absurd (none_there v h)) }
  where
    all_false : (v : ℕ) → get_or (replicate n false) v false ≡ false
    all_false v = elim (cases_lt v n) [
      | inl l ↦ get_or-replicate n v false false l
      | inr p ↦ get_or_past (replicate n false) v false (rw length-replicate p)
    ]

pub marked_more : (marks : List Bool) (queue : List ℕ) (v : ℕ) → v < length marks → AreMarked marks queue → AreMarked (set marks v true) (queue ++ v ∷ [])
marked_more marks queue v l m = record {
  exact = λ u. elim (cases_eq u v) [
    | inl e ↦ (
      λ _. same_there (queue ++ v ∷ []) v u (sym e) (Contains-push queue v),
      λ _. subst (λ (x : ℕ). get_or (set marks v true) x false ≡ true) (sym e) (get_or-set_same marks v true false l),
    )
    | inr ne ↦ (
      λ h. Contains-append_left queue (v ∷ []) u ((m.exact u).0 (sym (get_or-set_other marks v u true false ne) ∙ h)),
      λ h. get_or-set_other marks v u true false ne ∙ (m.exact u).1 (elim (Contains-push_cases queue v u h) [ inl q ↦ q | inr e ↦ absurd (ne (sym e)) ]),
    )
  ];
}

-- ---- a walk along lists

-- what is known when the lists of the first i in the queue were followed
pub record Walked (lists : List (Vec ℕ)) (inside : List Bool) (roots : List ℕ) (i : ℕ) (queue : List ℕ) : Type 0 where
  pub within : (v : ℕ) → Contains queue v → is_marked inside v ≡ true
  pub only : (holds : ℕ → Bool) → ((root : ℕ) → Contains roots root → is_marked inside root ≡ true → holds root ≡ true)
      → ((from to : ℕ) → holds from ≡ true → is_marked inside from ≡ true → Contains (list_at lists from) to → is_marked inside to ≡ true → holds to ≡ true)
      → (v : ℕ) → Contains queue v → holds v ≡ true
  pub begun : (r : ℕ) → Contains roots r → is_marked inside r ≡ true → Contains queue r
  pub followed : (k : ℕ) → k < i → (v : ℕ) → Contains (list_at lists (get_or queue k 0)) v → is_marked inside v ≡ true → Contains queue v

pub walk_begins : (lists : List (Vec ℕ)) (inside : List Bool) (roots queue : List ℕ) → CameTo [] queue inside roots → Walked lists inside roots 0 queue
walk_begins lists inside roots queue c = record {
  within = λ v h. c.within v (there_too queue c.more v c.grown h);
  only = λ holds root step v h. let m : Contains c.more v = there_too queue c.more v c.grown h in root v (c.only v m) (c.within v m);
  begun = λ r h n. c.each r h n;
  followed = λ k h. absurd (omega arith);
}

module _ (lists : List (Vec ℕ)) (inside : List Bool) (roots : List ℕ) (i : ℕ) (queue : List ℕ) (w : Walked lists inside roots i queue) where
  pub walk_goes_on : (after : List ℕ) → i < length queue → CameTo queue after inside (list_at lists (get_or queue i 0)) → Walked lists inside roots (i + 1) after
  walk_goes_on after l c = record {
    within = λ v h. elim (Contains-append_cases queue c.more v (there_too after (queue ++ c.more) v c.grown h)) [ inl q ↦ w.within v q | inr m ↦ c.within v m ];
    only = λ holds root step v h. elim (Contains-append_cases queue c.more v (there_too after (queue ++ c.more) v c.grown h)) [
      | inl q ↦ w.only holds root step v q
      | inr m ↦
          let at : Contains queue (get_or queue i 0) = (i, l, get_or_default queue i (get_or queue i 0) 0 l) in
          step (get_or queue i 0) v (w.only holds root step (get_or queue i 0) at) (w.within (get_or queue i 0) at) (c.only v m) (c.within v m)
    ];
    begun = λ r h n. kept r (w.begun r h n);
    followed = λ k h v e n. elim (cases_eq k i) [
      | inl is ↦ c.each v (subst (λ (x : ℕ). Contains (list_at lists x) v) (same k (omega arith) ∙ ap (λ (x : ℕ). get_or queue x 0) is) e) n
      | inr ne ↦ kept v (w.followed k (omega arith) v (subst (λ (x : ℕ). Contains (list_at lists x) v) (same k (omega arith)) e) n)
    ];
  }
    where
      kept : (v : ℕ) → Contains queue v → Contains after v
      kept v h = there_too (queue ++ c.more) after v (sym c.grown) (Contains-append_left queue c.more v h)

      same : (k : ℕ) → k < length queue → get_or after k 0 ≡ get_or queue k 0
      same k h = ap (λ (q : List ℕ). get_or q k 0) c.grown ∙ get_or_append_left queue c.more 0 k h

  pub walk_ends : (marks : List Bool) → length queue ≤ i → length marks ≡ length lists → AreMarked marks queue → AreSpread lists inside roots marks
  walk_ends marks whole n m = record {
    long = n;
    begun = λ r h k. (m.exact r).1 (w.begun r h k);
    goes = λ from to marked there k.
        let h = (m.exact from).0 marked in
        let is : get_or queue h.0 0 ≡ from = get_or_default queue h.0 0 from h.1 ∙ h.2 in
        (m.exact to).1 (w.followed h.0 (omega (arith, whole, h.1)) to (subst (λ (x : ℕ). Contains (list_at lists x) to) (sym is) there) k);
    only = λ holds root step v marked. w.only holds root step v ((m.exact v).0 marked);
  }

-- the node that is next in the queue has a list
pub next_within : (lists : List (Vec ℕ)) (inside : List Bool) (roots : List ℕ) (i node : ℕ) (queue : List ℕ) → length inside ≡ length lists → Walked lists inside roots i queue → i < length queue
    → node ≡ get_or queue i 0 → node < length lists
next_within lists inside roots i node queue long w h is =
    let marked : is_marked inside node ≡ true = w.within node (i, h, get_or_default queue i node 0 h ∙ sym is) in
    elim (cases_lt node (length lists)) [
      | inl less ↦ less
      | inr past ↦ absurd (false≢true (sym (get_or_past inside node false (omega (arith, past, long))) ∙ marked))
    ]
