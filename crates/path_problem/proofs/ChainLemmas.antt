-- Chains: how a trail grows, and how its numbers get ranks.
use Rattle.std.proofs.Common.{◌≡◌, ℕ, zero, suc, ◌+◌, ◌<◌, ◌≤◌, Bool, true, false, not, List, [], ◌∷◌, ◌++◌, set, drop, length, get_or, refl, sym, ap, subst, ◌∙◌, inl, inr, arith}
use Rattle.std.specs.Prelude.{Option, Some, None, ◌⊎◌, count_by}
use Rattle.std.specs.Prelude.{nat_eq}
use Rattle.std.specs.List.{All}
use Rattle.std.proofs.Common.{length-append, length-drop, is_some}
use Rattle.std.proofs.Math.ListN.{length-set}
use Rattle.std.proofs.lemmas.Bool.{cases_lt, ne_eqb, false≢true}
use Rattle.std.proofs.lemmas.List.{get_or-set_same, get_or-set_other, get_or_push, get_or_append_left}
use Rattle.std.proofs.lemmas.List.Elements.{All-nil, All-cons}
use Rattle.std.proofs.lemmas.List.Sums.{sum_by-set}
use Rattle.path_problem.proofs.Sums.{bit}
use Rattle.path_graph.proofs.Cases.{by_same}
use Rattle.path_problem.specs.declared.net.Link.{Link}
use Rattle.path_problem.specs.Net.{link_at}
use Rattle.path_problem.specs.Chain.{ArePointers, IsChain, HasRanks, IsClosed, IsRanking, CanRank, KeepsRanks, Leaves, IsEndPart, IsTrail}

-- all numbers below one have ranks, and so has all that is marked
pub record RankedSoFar (links : List Link) (next : List (Option ℕ)) (marks : List Bool) (ranks : List ℕ) (count first : ℕ) : Type 0 where
  pub ranking : IsRanking links next ranks count
  pub size : length marks ≡ length next
  pub marked : (u : ℕ) → u < length next → get_or marks u false ≡ true → 0 < get_or ranks u 0
  pub done : (u : ℕ) → u < first → 0 < get_or ranks u 0

-- a trail on its way: the chain to its end, all on it marked
pub record TrailSoFar (links : List Link) (next : List (Option ℕ)) (first : ℕ) (before marks : List Bool) (walk : List ℕ) (end : ℕ) : Type 0 where
  pub size : length marks ≡ length next
  pub chain : IsChain links next first walk end
  pub within : end < length next
  pub few : length walk + count_by (λ m. not m) marks ≤ length next
  pub marked : (u : ℕ) → u < length next → get_or marks u false ≡ true → (get_or before u false ≡ true) ⊎ Leaves links walk u

-- none of the first links leaves a number
pub record NotYet (links : List Link) (walk : List ℕ) (end at : ℕ) : Type 0 where
  pub none : (k : ℕ) → k < at → (link_at links (get_or walk k 0)).from ≡ end → ⊥

-- ranks on the way back along a trail
pub record BackSoFar (links : List Link) (next : List (Option ℕ)) (before ranks : List ℕ) (count first : ℕ) (whole walk : List ℕ) : Type 0 where
  pub ranking : IsRanking links next ranks count
  pub keeps : KeepsRanks before ranks
  pub end : ℕ
  pub chain : IsChain links next first walk end
  pub ranked : 0 < get_or ranks end 0
  pub all : (u : ℕ) → Leaves links whole u → (Leaves links walk u) ⊎ (0 < get_or ranks u 0)

module _ (links : List Link) (next : List (Option ℕ)) (pointers : ArePointers links next) where
  pub chain_push : (xs : List ℕ) (i u v : ℕ) → IsChain links next u xs v → get_or next v None ≡ Some i → IsChain links next u (xs ++ i ∷ []) (link_at links i).to
  chain_push [] i u v c e = (ap (λ w. get_or next w None) c ∙ e, refl)
  chain_push (x ∷ xs) i u v c e = (c.0, chain_push xs i (link_at links x).to v c.1 e)

  pub chain_within : (xs : List ℕ) (u v : ℕ) → u < length next → IsChain links next u xs v → v < length next
  chain_within [] u v h c = subst (λ (w : ℕ). w < length next) c h
  chain_within (x ∷ xs) u v h c = chain_within xs (link_at links x).to v (pointers.to u x h c.0) c.1

  pub chain_links : (xs : List ℕ) (u v : ℕ) → u < length next → IsChain links next u xs v → All (λ i. i < length links) xs
  chain_links [] u v h c = All-nil (λ i. i < length links)
  chain_links (x ∷ xs) u v h c = All-cons (λ i. i < length links) x xs (pointers.within u x h c.0) (chain_links xs (link_at links x).to v (pointers.to u x h c.0) c.1)

  -- what stands before the last link of a chain
  pub record Before (u : ℕ) (xs : List ℕ) (i v : ℕ) : Type 0 where
    pub at : ℕ
    pub chain : IsChain links next u xs at
    pub points : get_or next at None ≡ Some i
    pub to : (link_at links i).to ≡ v

  pub chain_before : (xs : List ℕ) (i u v : ℕ) → IsChain links next u (xs ++ i ∷ []) v → Before u xs i v
  chain_before [] i u v c = record { at = u; chain = refl; points = c.0; to = c.1 }
  chain_before (x ∷ xs) i u v c =
      let b = chain_before xs i (link_at links x).to v c.1 in
      record { at = b.at; chain = (c.0, b.chain); points = b.points; to = b.to }

  pub chain_drop : (xs : List ℕ) (k u v : ℕ) → u < length next → k < length xs → IsChain links next u xs v → IsChain links next (link_at links (get_or xs k 0)).from (drop k xs) v
  chain_drop [] k u v h b c = absurd (omega arith)
  chain_drop (x ∷ xs) zero u v h b c = (subst (λ (w : ℕ). get_or next w None ≡ Some x) (sym (pointers.from u x h c.0)) c.0, c.1)
  chain_drop (x ∷ xs) (suc k) u v h b c = chain_drop xs k (link_at links x).to v (pointers.to u x h c.0) (omega arith) c.1

  -- one more number has a rank
  pub rank_more : (ranks : List ℕ) (count v : ℕ) → v < length next → IsRanking links next ranks count → get_or ranks v 0 ≡ 0 → CanRank links next ranks v → IsRanking links next (set ranks v (count + 1)) (count + 1)
  rank_more ranks count v h r zero_there can =
      let inside : v < length ranks = subst (λ (n : ℕ). v < n) (sym r.size) h in
      let same : get_or (set ranks v (count + 1)) v 0 ≡ count + 1 = get_or-set_same ranks v (count + 1) 0 inside in
      let other : (u : ℕ) → 0 < get_or ranks u 0 → get_or (set ranks v (count + 1)) u 0 ≡ get_or ranks u 0 = λ u p. get_or-set_other ranks v u (count + 1) 0 (λ e. let z : get_or ranks u 0 ≡ 0 = ap (λ w. get_or ranks w 0) e ∙ zero_there in omega arith) in
      record {
        size = length-set ranks v (count + 1) ∙ r.size;
        few =
            let s = sum_by-set (λ m. bit (nat_eq m 0)) ranks v (count + 1) 0 inside in
            let one : bit (nat_eq (get_or ranks v 0) 0) ≡ 1 = ap (λ m. bit (nat_eq m 0)) zero_there in
            let none : bit (nat_eq (count + 1) 0) ≡ 0 = ap bit (ne_eqb (count + 1) 0 (λ e. omega arith)) in
            let f = r.few in
            omega arith;
        most = λ u b. by_same u v
            (λ e. let s : get_or (set ranks v (count + 1)) u 0 ≡ count + 1 = ap (λ w. get_or (set ranks v (count + 1)) w 0) e ∙ same in omega arith)
            (λ n. let s = get_or-set_other ranks v u (count + 1) 0 n in let m = r.most u b in omega arith);
        falls = λ u i b p e. by_same u v
            (λ q.
            let s : get_or (set ranks v (count + 1)) u 0 ≡ count + 1 = ap (λ w. get_or (set ranks v (count + 1)) w 0) q ∙ same in
            let c = can i (ap (λ w. get_or next w None) (sym q) ∙ e) in
            let o = other (link_at links i).to c in
            let m = r.most (link_at links i).to (pointers.to u i b e) in
            (omega arith, omega arith))
            (λ n.
            let s = get_or-set_other ranks v u (count + 1) 0 n in
            let f = r.falls u i b (omega arith) e in
            let f0 = f.0 in
            let f1 = f.1 in
            let o = other (link_at links i).to f0 in
            (omega arith, omega arith));
      }

  -- a link more on a trail, which leaves its end
  pub trail_more : (first : ℕ) (before marks : List Bool) (walk : List ℕ) (end i : ℕ) → TrailSoFar links next first before marks walk end → get_or marks end false ≡ false → get_or next end None ≡ Some i → TrailSoFar links next first before (set marks end true) (walk ++ i ∷ []) (link_at links i).to
  trail_more first before marks walk end i t free e =
      let inside : end < length marks = subst (λ (n : ℕ). end < n) (sym t.size) t.within in
      record {
        size = length-set marks end true ∙ t.size;
        chain = chain_push walk i first end t.chain e;
        within = pointers.to end i t.within e;
        few =
            let s = sum_by-set (λ m. bit (not m)) marks end true false inside in
            let one : bit (not (get_or marks end false)) ≡ 1 = ap (λ m. bit (not m)) free in
            let l = length-append walk (i ∷ []) in
            let f = t.few in
            omega arith;
        marked = λ u b m. by_same u end
            (λ q. inr (record {
              place = length walk;
              within = let l = length-append walk (i ∷ []) in omega arith;
              from = ap (λ (j : ℕ). (link_at links j).from) (get_or_push walk i 0 (length walk) refl) ∙ pointers.from end i t.within e ∙ sym q;
            }))
            (λ n. elim (t.marked u b (sym (get_or-set_other marks end u true false n) ∙ m)) [
              | inl o ↦ inl o
              | inr o ↦ inr (record {
                place = o.place;
                within = let l = length-append walk (i ∷ []) in let w = o.within in omega arith;
                from = ap (λ (j : ℕ). (link_at links j).from) (get_or_append_left walk (i ∷ []) 0 o.place o.within) ∙ o.from;
              })
            ]);
      }

leaves_cases : (links : List Link) (xs : List ℕ) (i u : ℕ) → Leaves links (xs ++ i ∷ []) u → Leaves links xs u ⊎ ((link_at links i).from ≡ u)
leaves_cases links xs i u l = elim (cases_lt l.place (length xs)) [
  | inl h ↦ inl (record { place = l.place; within = h; from = ap (λ (j : ℕ). (link_at links j).from) (sym (get_or_append_left xs (i ∷ []) 0 l.place h)) ∙ l.from })
  | inr h ↦
      let n = length-append xs (i ∷ []) in
      let w = l.within in
      let e : l.place ≡ length xs = omega arith in
      inr (ap (λ (j : ℕ). (link_at links j).from) (sym (ap (λ k. get_or (xs ++ i ∷ []) k 0) e ∙ get_or_push xs i 0 (length xs) refl)) ∙ l.from)
]

-- a step back along a trail
pub step_back : (links : List Link) (next : List (Option ℕ)) (pointers : ArePointers links next) (before ranks after : List ℕ) (count count' first : ℕ) (whole xs walk : List ℕ) (i : ℕ) → first < length next → walk ≡ xs ++ i ∷ [] → BackSoFar links next before ranks count first whole walk → IsRanking links next after count' → 0 < get_or after (link_at links i).from 0 → KeepsRanks ranks after → BackSoFar links next before after count' first whole xs
step_back links next pointers before ranks after count count' first whole xs walk i h e s ranking ranked keeps =
    let b = chain_before links next pointers xs i first s.end (subst (λ (w : List ℕ). IsChain links next first w s.end) e s.chain) in
    let is = pointers.from b.at i (chain_within links next pointers xs first b.at h b.chain) b.points in
    record {
      ranking = ranking;
      keeps = record { each = λ u p. keeps.each u (s.keeps.each u p) };
      end = b.at;
      chain = b.chain;
      ranked = subst (λ (u : ℕ). 0 < get_or after u 0) is ranked;
      all = λ u l. elim (s.all u l) [
        | inl m ↦ elim (leaves_cases links xs i u (subst (λ (w : List ℕ). Leaves links w u) e m)) [
          | inl k ↦ inl k
          | inr k ↦ inr (subst (λ (w : ℕ). 0 < get_or after w 0) k ranked)
        ]
        | inr m ↦ inr (keeps.each u m)
      ];
    }

-- what the last link of the way back leaves may have a rank
pub record CanStep (links : List Link) (next : List (Option ℕ)) (ranks : List ℕ) (i : ℕ) : Type 0 where
  pub link : i < length links
  pub within : (link_at links i).from < length next
  pub can : CanRank links next ranks (link_at links i).from

pub can_step : (links : List Link) (next : List (Option ℕ)) (pointers : ArePointers links next) (before ranks : List ℕ) (count first : ℕ) (whole xs walk : List ℕ) (i : ℕ) → first < length next → walk ≡ xs ++ i ∷ [] → BackSoFar links next before ranks count first whole walk → CanStep links next ranks i
can_step links next pointers before ranks count first whole xs walk i h e s =
    let b = chain_before links next pointers xs i first s.end (subst (λ (w : List ℕ). IsChain links next first w s.end) e s.chain) in
    let w = chain_within links next pointers xs first b.at h b.chain in
    let is = pointers.from b.at i w b.points in
    record {
      link = pointers.within b.at i w b.points;
      within = subst (λ (u : ℕ). u < length next) (sym is) w;
      can = λ j q.
          let same : Some j ≡ Some i = sym q ∙ ap (λ u. get_or next u None) is ∙ b.points in
          let k : j ≡ i = cc same in
          subst (λ (u : ℕ). 0 < get_or ranks u 0) (sym (ap (λ (m : ℕ). (link_at links m).to) k ∙ b.to)) s.ranked;
    }

-- ranks of all numbers
pub ranked_all : (links : List Link) (next : List (Option ℕ)) (marks : List Bool) (ranks : List ℕ) (count first : ℕ) → length next ≤ first → RankedSoFar links next marks ranks count first → HasRanks links next
ranked_all links next marks ranks count first h s = record {
  ranks = ranks;
  are = record {
    few = λ u b. let m = s.ranking.most u b in let f = s.ranking.few in omega arith;
    falls = λ u i b e. (s.ranking.falls u i b (s.done u (omega arith)) e).1;
  };
}

-- ---- trail by trail

module _ (links : List Link) (next : List (Option ℕ)) (pointers : ArePointers links next) (marks after : List Bool) (ranks : List ℕ) (count first : ℕ) (h : first < length next) (s : RankedSoFar links next marks ranks count first) (walk : List ℕ) (end : ℕ) (t : IsTrail links next first marks after walk end) where
  -- a number without a rank that points somewhere is on the trail
  pub on_trail : get_or ranks end 0 ≡ 0 → is_some (get_or next end None) ≡ true → Leaves links walk end
  on_trail zero_there some = elim t.ended [
    | inl e ↦ absurd (false≢true (ap is_some (sym e) ∙ some))
    | inr o ↦ elim o [
      | inl m ↦ absurd (let r = s.marked end t.within m in omega arith)
      | inr l ↦ l
    ]
  ]

  -- the part of the trail from its end to its end is closed
  pub closed_end : (part : List ℕ) → IsEndPart links walk end part → IsClosed links next part
  closed_end part p =
      let c = chain_drop links next pointers walk p.place first end h p.within t.chain in
      let F : ℕ → Type 0 = λ u. IsChain links next u (drop p.place walk) end in
      let G : List ℕ → Type 0 = λ w. IsChain links next end w end in
      let long = length-drop p.place walk in
      let size = ap length p.is in
      let few = t.few in
      let w = p.within in
      record {
        first = end;
        within = t.within;
        some = omega arith;
        chain = subst G (sym p.is) (subst F p.from c);
        few = omega arith;
      }

  -- the end may have a rank where it points nowhere
  pub can_end : (is_some (get_or next end None) ≡ true → ⊥) → CanRank links next ranks end
  can_end none = λ i e. absurd (none (ap is_some e))

  -- with the end and all that the trail leaves, what is below the next number has a rank
  pub ranked_trail : (ranks' ranks'' : List ℕ) (count'' : ℕ) (size : length after ≡ length next) → KeepsRanks ranks ranks' → 0 < get_or ranks' end 0 → KeepsRanks ranks' ranks'' → ((u : ℕ) → Leaves links walk u → 0 < get_or ranks'' u 0) → IsRanking links next ranks'' count'' → RankedSoFar links next after ranks'' count'' (first + 1)
  ranked_trail ranks' ranks'' count'' size keeps ended keeps' left ranking = record {
    ranking = ranking;
    size = size;
    marked = marked;
    done = λ u b. elim (cases_lt u first) [
      | inl l ↦ keeps'.each u (keeps.each u (s.done u l))
      | inr l ↦ let e : first ≡ u = omega arith in subst (λ (w : ℕ). 0 < get_or ranks'' w 0) e (begun walk t.chain left)
    ];
  }
    where
      marked : (u : ℕ) → u < length next → get_or after u false ≡ true → 0 < get_or ranks'' u 0
      marked u b m = elim (t.marked u b m) [
        | inl o ↦ keeps'.each u (keeps.each u (s.marked u b o))
        | inr o ↦ elim o [
          | inl l ↦ left u l
          | inr e ↦ subst (λ (w : ℕ). 0 < get_or ranks'' w 0) (sym e) (keeps'.each end ended)
        ]
      ]

      begun : (w : List ℕ) → IsChain links next first w end → ((u : ℕ) → Leaves links w u → 0 < get_or ranks'' u 0) → 0 < get_or ranks'' first 0
      begun [] c f = subst (λ (w : ℕ). 0 < get_or ranks'' w 0) (sym c) (keeps'.each end ended)
      begun (i ∷ w) c f = f first (record { place = 0; within = omega arith; from = pointers.from first i h c.0 })
