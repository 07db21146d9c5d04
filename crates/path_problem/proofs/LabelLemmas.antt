-- Labels: how one changes, what a closed chain of them gains, and how great they are without one.
use Rattle.std.proofs.Common.{◌≡◌, ℕ, zero, suc, ◌+◌, ◌*◌, ◌<◌, List, [], ◌∷◌, set, length, get_or, refl, sym, ap, subst, ◌∙◌, inl, inr, arith}
use Rattle.std.specs.Prelude.{ℤ, pos, ◌+ℤ◌, ◌≤ℤ◌, ◌<ℤ◌, Option, Some, None, ◌⊎◌}
use Rattle.std.proofs.lemmas.Int.{ints}
use Rattle.std.proofs.lemmas.List.{get_or-set_same, get_or-set_other}
use Rattle.std.proofs.Math.ListN.{length-set}
use Rattle.path_problem.specs.declared.net.Link.{Link}
use Rattle.path_graph.specs.Graph.{weight_along}
use Rattle.path_problem.specs.Net.{link_at, link_weight, IsLinked, AreLinks, Gain, Comes, PointsOn, AreLabels}
use Rattle.path_problem.specs.Chain.{IsChain, AreRanks}
use Rattle.path_graph.proofs.Cases.{by_same}

module _ (links : List Link) (count price : ℕ) (start values : List ℤ) (next : List (Option ℕ)) (labels : AreLabels links count price start values next) where
  -- a label takes the better value along a link
  module _ (i : ℕ) (h : i < length links) (inside : (link_at links i).from < count) (target : (link_at links i).to < count) (x : ℤ) (is : x ≡ (link_weight links price i +ℤ get_or values (link_at links i).to (pos 0))) (better : get_or values (link_at links i).from (pos 0) <ℤ x) where
    abbrev v : ℕ
    v = (link_at links i).from

    abbrev after : List ℤ
    after = set values v x

    abbrev later : List ℕ
    later = set labels.times v labels.now

    value_same : get_or after v (pos 0) ≡ x
    value_same = get_or-set_same values v x (pos 0) (subst (λ (n : ℕ). v < n) (sym labels.values_count) inside)

    time_same : get_or later v 0 ≡ labels.now
    time_same = get_or-set_same labels.times v labels.now 0 (subst (λ (n : ℕ). v < n) (sym labels.times_count) inside)

    next_same : get_or (set next v (Some i)) v None ≡ Some i
    next_same = get_or-set_same next v (Some i) None (subst (λ (n : ℕ). v < n) (sym labels.next_count) inside)

    -- no value falls
    grown : (u : ℕ) → get_or values u (pos 0) ≤ℤ get_or after u (pos 0)
    grown u = by_same u v
        (λ e. subst (λ (w : ℕ). get_or values w (pos 0) ≤ℤ get_or after w (pos 0)) (sym e) (let s = value_same in omega (arith, ints)))
        (λ n. let s = get_or-set_other values v u x (pos 0) n in omega (arith, ints))

    own : PointsOn links price start after later v (Some i)
    own = (
      h,
      refl,
      (let s = value_same in let g = grown (link_at links i).to in omega (arith, ints)),
      by_same (link_at links i).to v
          (λ e. inr (
          let s = value_same in
          let t : get_or after (link_at links i).to (pos 0) ≡ x = ap (λ w. get_or after w (pos 0)) e ∙ value_same in
          let u : get_or values (link_at links i).to (pos 0) ≡ get_or values v (pos 0) = ap (λ w. get_or values w (pos 0)) e in
          omega (arith, ints)))
          (λ n. inl (
          let s = time_same in
          let t = get_or-set_other labels.times v (link_at links i).to labels.now 0 n in
          let p = labels.past (link_at links i).to target in
          omega arith)),
    )

    other : (u : ℕ) → u < count → (u ≡ v → ⊥) → (o : Option ℕ) → PointsOn links price start values labels.times u o → PointsOn links price start after later u o
    other u b n None p = get_or-set_other values v u x (pos 0) n ∙ p
    other u b n (Some j) p =
        let t = (link_at links j).to in
        let same = get_or-set_other values v u x (pos 0) n in
        let time = get_or-set_other labels.times v u labels.now 0 n in
        let g = grown t in (
          p.0,
          p.1,
          (let q = p.2 in omega (arith, ints)),
          by_same t v
              (λ e. inr (
              let s : get_or after t (pos 0) ≡ x = ap (λ w. get_or after w (pos 0)) e ∙ value_same in
              let o : get_or values t (pos 0) ≡ get_or values v (pos 0) = ap (λ w. get_or values w (pos 0)) e in
              let q = p.2 in
              omega (arith, ints)))
              (λ m. elim p.3 [
                | inl q ↦ inl (let r = get_or-set_other labels.times v t labels.now 0 m in omega arith)
                | inr q ↦ inr (omega (arith, ints))
              ]),
        )

    pub update : AreLabels links count price start (set values (link_at links i).from x) (set next (link_at links i).from (Some i))
    update = record {
      values_count = length-set values v x ∙ labels.values_count;
      next_count = length-set next v (Some i) ∙ labels.next_count;
      times = later;
      now = labels.now + 1;
      times_count = length-set labels.times v labels.now ∙ labels.times_count;
      past = λ u b. by_same u v
          (λ e. let s : get_or later u 0 ≡ labels.now = ap (λ w. get_or later w 0) e ∙ time_same in omega arith)
          (λ n. let s = get_or-set_other labels.times v u labels.now 0 n in let p = labels.past u b in omega arith);
      begun = λ u b. let g = grown u in let s = labels.begun u b in omega (arith, ints);
      comes = λ u b. by_same u v
          (λ e.
          let c = labels.comes (link_at links i).to target in
          let F : ℕ → Type 0 = λ w. Comes links price start w (get_or after w (pos 0)) in
          subst F (sym e) (record {
            walk = i ∷ c.walk;
            last = c.last;
            is = (h, refl, c.is);
            sums = (let s = value_same in let t = c.sums in omega (arith, ints));
          }))
          (λ n. subst (Comes links price start u) (sym (get_or-set_other values v u x (pos 0) n)) (labels.comes u b));
      points = λ u b. by_same u v
          (λ e.
          let F : ℕ → Type 0 = λ w. PointsOn links price start after later w (get_or (set next v (Some i)) w None) in
          subst F (sym e) (subst (PointsOn links price start after later v) (sym next_same) own))
          (λ n. subst (PointsOn links price start after later u) (sym (get_or-set_other next v u (Some i) None n)) (other u b n (get_or next u None) (labels.points u b)));
    }

module _ (links : List Link) (count price bound : ℕ) (start values : List ℤ) (next : List (Option ℕ)) (sound : AreLinks links count price bound) (labels : AreLabels links count price start values next) where
  abbrev val : ℕ → ℤ
  val u = get_or values u (pos 0)

  abbrev at : ℕ → ℕ
  at u = get_or labels.times u 0

  points_at : (u i : ℕ) → u < count → get_or next u None ≡ Some i → PointsOn links price start values labels.times u (Some i)
  points_at u i h e = subst (PointsOn links price start values labels.times u) e (labels.points u h)

  pub chain_is_linked : (walk : List ℕ) (u v : ℕ) → u < count → IsChain links next u walk v → IsLinked links u walk v
  chain_is_linked [] u v h c = c
  chain_is_linked (i ∷ walk) u v h c =
      let p = points_at u i h c.0 in
      (p.0, p.1, chain_is_linked walk (link_at links i).to v (sound.to i p.0) c.1)

  -- a chain gains what its values fall, and more unless all of them are ever older
  abbrev Falls : ℕ → ℤ → ℕ → Type 0
  Falls u sum v = (val u <ℤ (sum +ℤ val v)) ⊎ ((val u ≤ℤ (sum +ℤ val v)) × (at v < at u))

  falls_on : (i : ℕ) (u t v : ℕ) (sum : ℤ) → (val u ≤ℤ (link_weight links price i +ℤ val t)) → ((at t < at u) ⊎ (val u <ℤ (link_weight links price i +ℤ val t))) → Falls t sum v → Falls u (link_weight links price i +ℤ sum) v
  falls_on i u t v sum le (inr s) (inl f) = inl (omega (arith, ints))
  falls_on i u t v sum le (inr s) (inr f) = let g = f.0 in inl (omega (arith, ints))
  falls_on i u t v sum le (inl o) (inl f) = inl (omega (arith, ints))
  falls_on i u t v sum le (inl o) (inr f) = let g = f.0 in let w = f.1 in inr (omega (arith, ints), omega arith)

  falls_once : (i : ℕ) (u v : ℕ) → (val u ≤ℤ (link_weight links price i +ℤ val v)) → ((at v < at u) ⊎ (val u <ℤ (link_weight links price i +ℤ val v))) → Falls u (link_weight links price i +ℤ pos 0) v
  falls_once i u v le (inl o) = inr (omega (arith, ints), o)
  falls_once i u v le (inr s) = inl (omega (arith, ints))

  pub chain_falls : (walk : List ℕ) (i u v : ℕ) → u < count → IsChain links next u (i ∷ walk) v → Falls u (weight_along (link_weight links price) (i ∷ walk)) v
  chain_falls [] i u v h c =
      let p = points_at u i h c.0 in
      let F : ℕ → Type 0 = λ w. Falls u (link_weight links price i +ℤ pos 0) w in
      subst F c.1 (falls_once i u (link_at links i).to p.2 p.3)
  chain_falls (j ∷ walk) i u v h c =
      let p = points_at u i h c.0 in
      falls_on i u (link_at links i).to v (weight_along (link_weight links price) (j ∷ walk)) p.2 p.3 (chain_falls walk j (link_at links i).to v (sound.to i p.0) c.1)

  -- a closed chain gains
  pub closed_chain_gains : (walk : List ℕ) (i u : ℕ) → u < count → IsChain links next u (i ∷ walk) u → Gain links price (i ∷ walk)
  closed_chain_gains walk i u h c = record {
    first = u;
    closed = chain_is_linked (i ∷ walk) u u h c;
    gains = elim (chain_falls walk i u u h c) [
      | inl f ↦ omega (arith, ints)
      | inr f ↦ absurd (let w = f.1 in omega arith)
    ];
  }

  -- a pointer, or none
  pointer : (o : Option ℕ) → (o ≡ None) ⊎ ((i : ℕ) × (o ≡ Some i))
  pointer None = inl refl
  pointer (Some i) = inr (i, refl)

  pub value_below : (ranks : List ℕ) → AreRanks links next ranks → (begin : ℕ) → ((u : ℕ) → u < count → get_or start u (pos 0) ≤ℤ pos begin) → (n u : ℕ) → u < count → get_or ranks u 0 < n → val u ≤ℤ pos (begin + n * bound)
  value_below ranks r begin low zero u h below = absurd (omega arith)
  value_below ranks r begin low (suc n) u h below = elim (pointer (get_or next u None)) [
    | inl e ↦
        let p : val u ≡ get_or start u (pos 0) = subst (PointsOn links price start values labels.times u) e (labels.points u h) in
        let l = low u h in
        omega (arith, ints)
    | inr e ↦
        let p = points_at u e.0 h e.1 in
        let q = p.2 in
        let f = r.falls u e.0 (subst (λ (n : ℕ). u < n) (sym labels.next_count) h) e.1 in
        let rest = value_below ranks r begin low n (link_at links e.0).to (sound.to e.0 p.0) (omega arith) in
        let w = (sound.weights e.0 p.0).high in
        omega (arith, ints)
  ]
