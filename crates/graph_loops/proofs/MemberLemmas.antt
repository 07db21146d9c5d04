-- The members of a loop, and the loops in the order of their heads.
use Rattle.std.proofs.Common.{◌≡◌, ℕ, ◌+◌, ◌<◌, ◌≤◌, Bool, true, false, List, [], ◌∷◌, ◌++◌, length, get_or, sym, subst, ◌∙◌, inl, inr, arith}
use Rattle.std.specs.Prelude.{◌↔◌}
use Rattle.std.proofs.lemmas.Bool.{cases_eq, cases_lt, false≢true}
use Rattle.std.proofs.lemmas.List.{get_or_past, get_or_append_left, length_push}
use Rattle.std.proofs.lemmas.List.Elements.{All-push, Contains-push, Contains-push_cases, Contains-append_left, Contains-get_or}
use Rattle.std.proofs.lemmas.List.Quantifiers.{Any-push, all_pairs_push}
use Rattle.std.specs.List.{All, AllPairs, Any, Contains}
use Rattle.wx_base.specs.Paths.{IsHead, IsMember}
use Rattle.graph_loops.specs.declared.loops.Loop.{Loop}
use Rattle.graph_loops.specs.Graph.{edges, AreReached, IsGraph, IsReached}
use Rattle.graph_loops.specs.Walk.{AreSources}
use Rattle.graph_loops.specs.Ways.{AreBackInto}
use Rattle.graph_loops.specs.Loops.{AreLoops, AreTaken, IsLoop, IsTaken}
use Rattle.graph_loops.proofs.Places.{none_there, same_there}
use Rattle.graph_loops.proofs.PathLemmas.{turned}
use Rattle.graph_loops.proofs.WayLemmas.{path_to, reached_by}

-- ---- vertices taken

pub none_taken : (head : ℕ) (marks body : List Bool) (taken : List ℕ) → taken ≡ [] → AreTaken head marks body 0 taken
none_taken head marks body taken e = subst (λ (xs : List ℕ). AreTaken head marks body 0 xs) (sym e) (record {
  ascending = λ i j d h k. absurd (omega (arith, k));
  exact = λ v. (λ h. absurd (none_there v h), λ h. absurd (omega (arith, h.0)));
})

module _ (head : ℕ) (marks body : List Bool) (n : ℕ) (taken : List ℕ) (t : AreTaken head marks body n taken) where
  pub taken_with : IsTaken head marks body n → AreTaken head marks body (n + 1) (taken ++ n ∷ [])
  taken_with is = record {
    ascending = all_pairs_push (λ a b. a < b) taken n t.ascending (λ k d h. ((t.exact (get_or taken k d)).0 (Contains-get_or taken k d h)).0);
    exact = λ v. (
      λ h. elim (Contains-push_cases taken n v h) [
        | inl l ↦ let b = (t.exact v).0 l in (omega (arith, b.0), b.1)
        | inr e ↦ (omega (arith, e), subst (λ (x : ℕ). IsTaken head marks body x) e is)
      ],
      λ h. elim (cases_eq n v) [
        | inl e ↦ same_there (taken ++ n ∷ []) n v e (Contains-push taken n)
        | inr ne ↦ Contains-append_left taken (n ∷ []) v ((t.exact v).1 (omega (arith, h.0), h.1))
      ],
    );
  }

  pub taken_without : (IsTaken head marks body n → ⊥) → AreTaken head marks body (n + 1) taken
  taken_without not = record {
    ascending = t.ascending;
    exact = λ v. (
      λ h. let b = (t.exact v).0 h in (omega (arith, b.0), b.1),
      λ h. elim (cases_eq n v) [
        | inl e ↦ absurd (not (subst (λ (x : ℕ). IsTaken head marks body x) (sym e) h.1))
        | inr ne ↦ (t.exact v).1 (omega (arith, h.0), h.1)
      ],
    );
  }

-- ---- members

module _ (lists sources : List (List ℕ)) (entry head : ℕ) (back : List ℕ) (marks body : List Bool)
    (s : AreSources lists sources) (b : AreBackInto lists entry head back) (m : AreReached sources (head ∷ []) back marks) (r : AreReached lists [] (entry ∷ []) body) where
  member_is : (a : ℕ) → IsTaken head marks body a → IsMember (edges lists) entry head a
  member_is a t = elim t [
    | inl e ↦ inl e
    | inr k ↦
        let led = (m.exact a).0 k.0 in
        inr (record {
          reached = path_to lists [] entry a ((r.exact a).0 k.1);
          source = led.root;
          back = (b.exact led.root).0 led.listed;
          path = turned (edges sources) (head ∷ []) (edges lists) (λ u v e. (s.exact v u).0 e) led.path;
        })
  ]

  is_member : (a : ℕ) → IsMember (edges lists) entry head a → IsTaken head marks body a
  is_member a t = elim t [
    | inl e ↦ inl e
    | inr k ↦
        let led : IsReached sources (head ∷ []) back a = record {
          root = k.source;
          listed = (b.exact k.source).1 k.back;
          path = turned (edges lists) (head ∷ []) (edges sources) (λ u v e. (s.exact u v).1 e) k.path;
        } in
        inr ((m.exact a).1 led, (r.exact a).1 (reached_by lists [] entry a k.reached))
  ]

  pub members_are : (members : List ℕ) → head < length lists → AreTaken head marks body (length body) members → (a : ℕ) → Contains members a ↔ IsMember (edges lists) entry head a
  members_are members within t a = (
    λ h. member_is a ((t.exact a).0 h).1,
    λ k. let is = is_member a k in (t.exact a).1 (below a is, is),
  )
    where
      marked_within : (a : ℕ) → get_or body a false ≡ true → a < length body
      marked_within a e = elim (cases_lt a (length body)) [ inl l ↦ l | inr p ↦ absurd (false≢true (sym (get_or_past body a false p) ∙ e)) ]

      below : (a : ℕ) → IsTaken head marks body a → a < length body
      below a t = elim t [
        | inl e ↦ omega (arith, e, within, r.count)
        | inr k ↦ marked_within a k.1
      ]

-- ---- loops

-- the loops of the heads below a vertex
pub record LoopsBelow (lists : List (List ℕ)) (entry n : ℕ) (loops : List Loop) : Type 0 where
  pub ascending : AllPairs (λ l m. l.head < m.head) loops
  pub below : All (λ l. l.head < n) loops
  pub each : All (λ l. IsLoop lists entry l) loops
  pub whole : (head : ℕ) → head < n → IsHead (edges lists) entry head → Any (λ l. l.head ≡ head) loops

pub no_loops : (lists : List (List ℕ)) (entry : ℕ) (loops : List Loop) → loops ≡ [] → LoopsBelow lists entry 0 loops
no_loops lists entry loops e = subst (λ (ls : List Loop). LoopsBelow lists entry 0 ls) (sym e) (record {
  ascending = λ i j d h k. absurd (omega (arith, k));
  below = λ k d h. absurd (omega (arith, h));
  each = λ k d h. absurd (omega (arith, h));
  whole = λ head h _. absurd (omega (arith, h));
})

module _ (lists : List (List ℕ)) (entry n : ℕ) (loops : List Loop) (b : LoopsBelow lists entry n loops) where
  further_below : All (λ l. l.head < n + 1) loops
  further_below = λ k d h. omega (arith, b.below k d h)

  pub loop_more : (after : List Loop) (l : Loop) → after ≡ loops ++ l ∷ [] → l.head ≡ n → IsLoop lists entry l → LoopsBelow lists entry (n + 1) after
  loop_more after l grown at is = subst (λ (ls : List Loop). LoopsBelow lists entry (n + 1) ls) (sym grown) (record {
    ascending = all_pairs_push (λ l m. l.head < m.head) loops l b.ascending (λ k d h. omega (arith, b.below k d h, at));
    below = All-push (λ l. l.head < n + 1) loops l further_below (omega (arith, at));
    each = All-push (λ l. IsLoop lists entry l) loops l b.each is;
    whole = λ head h k. elim (cases_eq head n) [
      | inl e ↦ Any-push (λ l. l.head ≡ head) loops l (at ∙ sym e)
      | inr ne ↦ kept head (b.whole head (omega arith) k)
    ];
  })
    where
      kept : (head : ℕ) → Any (λ l. l.head ≡ head) loops → Any (λ l. l.head ≡ head) (loops ++ l ∷ [])
      kept head a = (a.0, a.1, omega (arith, length_push loops l, a.2), get_or_append_left loops (l ∷ []) a.1 a.0 a.2 ∙ a.3, a.4)

  pub loop_absent : (IsHead (edges lists) entry n → ⊥) → LoopsBelow lists entry (n + 1) loops
  loop_absent not = record {
    ascending = b.ascending;
    below = further_below;
    each = b.each;
    whole = λ head h k. elim (cases_eq head n) [
      | inl e ↦ absurd (not (subst (λ (x : ℕ). IsHead (edges lists) entry x) e k))
      | inr ne ↦ b.whole head (omega arith) k
    ];
  }

  pub all_loops : IsGraph lists → length lists ≤ n → AreLoops lists entry loops
  all_loops g all = record {
    ascending = b.ascending;
    each = b.each;
    whole = λ head h. b.whole head (omega (arith, g.within h.source head h.back.edge)) h;
  }

-- where sources stand there is a back edge
pub head_is : (lists : List (List ℕ)) (entry head : ℕ) (list back : List ℕ) → list ≡ back → AreBackInto lists entry head back → 0 < length list → IsHead (edges lists) entry head
head_is lists entry head list back e b h =
    let P : List ℕ → Type 0 = λ xs. Contains xs (get_or list 0 0) in
    record { source = get_or list 0 0; back = (b.exact (get_or list 0 0)).0 (subst P e (Contains-get_or list 0 0 h)) }

pub no_head : (lists : List (List ℕ)) (entry head : ℕ) (list back : List ℕ) → list ≡ back → AreBackInto lists entry head back → length list ≡ 0 → IsHead (edges lists) entry head → ⊥
no_head lists entry head list back e b none h =
    let P : List ℕ → Type 0 = λ xs. Contains xs h.source in
    let there : Contains list h.source = subst P (sym e) ((b.exact h.source).1 h.back) in
    absurd (omega (arith, there.1, none))

-- what was taken, by the same marks
pub taken_among : (head : ℕ) (marks seen body reached : List Bool) (taken : List ℕ) → marks ≡ seen → body ≡ reached → AreTaken head marks body (length body) taken → AreTaken head seen reached (length reached) taken
taken_among head marks seen body reached taken e f t =
    subst (λ (b : List Bool). AreTaken head seen b (length b) taken) f (subst (λ (m : List Bool). AreTaken head m body (length body) taken) e t)

-- the sources of back edges, as they were read
pub back_read : (lists : List (List ℕ)) (entry head : ℕ) (list back : List ℕ) → list ≡ back → AreBackInto lists entry head back → AreBackInto lists entry head list
back_read lists entry head list back e b = subst (λ (xs : List ℕ). AreBackInto lists entry head xs) (sym e) b
