-- The loops of an unfolding, and how many edges there are.
use Rattle.std.proofs.Common.{◌≡◌, ℕ, zero, suc, ◌+◌, ◌*◌, ◌<◌, ◌≤◌, ◌⊎◌, Bool, true, false, if◌then◌else◌, List, [], ◌∷◌, ◌++◌, length, get_or, slice_get, Option, Some, None, MatchOption, refl, sym, ap, ◌∙◌, subst, inl, inr, arith}
use Rattle.std.specs.Prelude.{◌↔◌}
use Rattle.std.specs.List.{All, AllPairs, Any, Contains}
use Rattle.std.proofs.lemmas.Bool.{cases_lt}
use Rattle.std.proofs.lemmas.List.Elements.{All-nil, All-push, All-weaker, Contains-get_or}
use Rattle.std.proofs.lemmas.List.Quantifiers.{Any-push, all_pairs_push}
use Rattle.std.proofs.lemmas.List.{length-map}
use Rattle.std.proofs.lemmas.Option.{same_Some, slice_get-get_or, slice_get_within}
use Rattle.wx_base.specs.Facts.{AreAscending}
use Rattle.flow_graph.specs.declared.program.LoopInfo.{LoopInfo}
use Rattle.flow_graph.specs.declared.program.Program.{Program}
use Rattle.flow_ctx.specs.declared.place.Place.{Place}
use Rattle.flow_ctx.specs.declared.unfolded.Edge.{Edge}
use Rattle.flow_ctx.specs.declared.unfolded.ULoop.{ULoop}
use Rattle.flow_ctx.specs.declared.unfolded.UNode.{UNode}
use Rattle.flow_ctx.specs.declared.unfolded.Unfolded.{Unfolded}
use Rattle.flow_ctx.specs.Chosen.{AreChosen, AreLoopsTo, LeadsInto, LeadsIntoAt, most_edges}
use Rattle.flow_ctx.specs.Found.{nodes_of}
use Rattle.flow_ctx.specs.Targets.{HasPlace, IsInOrder, node_of}
use Rattle.flow_ctx.specs.Order.{IsEdgeBefore}
use Rattle.flow_ctx.specs.Unfolding.{AreEdges, AreLoops, AreNodes, IsStartNumber, IsUnfolding, IsMember, IsBackEdge, IsEdge, IsEntryEdge, IsHeadNumber, IsHeadOf, IsLoop, IsMemberNumber, most_nodes}
use Rattle.flow_ctx.proofs.Keys.{place_bound}
use Rattle.flow_ctx.proofs.FoundLemmas.{reached_has_place}
use Rattle.flow_ctx.proofs.NumberLemmas.{node_stands, reached_at}
use Rattle.flow_ctx.proofs.TargetLemmas.{any_left}

-- the loop of a head, from its numbers
pub the_loop : (program : Program) (nodes : List UNode) (edges : List Edge) (l : ULoop) (node : UNode) (info : LoopInfo) (members back entries : List ℕ)
    → slice_get nodes l.head ≡ Some node → IsHeadOf program node info → l.members ≡ members → l.back ≡ back → l.entries ≡ entries
    → AreChosen (IsMemberNumber program nodes node info) members → AreChosen (LeadsIntoAt edges l.head members true) back
    → AreChosen (LeadsIntoAt edges l.head members false) entries → l.maxcount ≡ info.maxcount → l.totalcount ≡ info.totalcount → IsLoop program nodes edges l
the_loop program nodes edges l node info members back entries stands head em eb ee cm cb ce max total = record {
  node = node;
  info = info;
  stands = stands;
  head = head;
  members_ascend = subst AreAscending (sym em) cm.ascending;
  members = λ n. (λ c. (cm.exact n).0 (subst (λ (x : List ℕ). Contains x n) em c), λ p. subst (λ (x : List ℕ). Contains x n) (sym em) ((cm.exact n).1 p));
  back_ascends = subst AreAscending (sym eb) cb.ascending;
  back = λ n. (
    λ c. let k = (cb.exact n).0 (subst (λ (x : List ℕ). Contains x n) eb c) in
        record { edge = k.edge; stands = k.stands; into = k.leads.0; inside = subst (λ (x : List ℕ). Contains x k.edge.from) (sym em) k.leads.1 },
    λ b. subst (λ (x : List ℕ). Contains x n) (sym eb) ((cb.exact n).1 (record { edge = b.edge; stands = b.stands; leads = (b.into, subst (λ (x : List ℕ). Contains x b.edge.from) em b.inside) })),
  );
  entries_ascend = subst AreAscending (sym ee) ce.ascending;
  entries = λ n. (
    λ c. let k = (ce.exact n).0 (subst (λ (x : List ℕ). Contains x n) ee c) in
        record { edge = k.edge; stands = k.stands; into = k.leads.0; outside = λ h. k.leads.1 (subst (λ (x : List ℕ). Contains x k.edge.from) em h) },
    λ b. subst (λ (x : List ℕ). Contains x n) (sym ee) ((ce.exact n).1 (record { edge = b.edge; stands = b.stands; leads = (b.into, λ h. b.outside (subst (λ (x : List ℕ). Contains x b.edge.from) (sym em) h)) })),
  );
  maxcount = max;
  totalcount = total;
}

module _ (program : Program) (nodes : List UNode) (edges : List Edge) where
  pub loops_none : AreLoopsTo program nodes edges 0 []
  loops_none = record {
    ascending = λ i j d less within. absurd (omega (arith, within));
    each = All-nil (λ l. IsLoop program nodes edges l);
    below = All-nil (λ l. l.head < 0);
    whole = λ n h. absurd (omega (arith, h));
  }

  pub loops_skip : (i : ℕ) (loops : List ULoop) → AreLoopsTo program nodes edges i loops → (IsHeadNumber program nodes i → ⊥)
      → AreLoopsTo program nodes edges (i + 1) loops
  loops_skip i loops a none = record {
    ascending = a.ascending;
    each = a.each;
    below = All-weaker (λ l. l.head < i) (λ l. l.head < i + 1) (λ l h. omega (arith, h)) loops a.below;
    whole = λ n h head. elim (cases_lt n i) [
      | inl less ↦ a.whole n less head
      | inr more ↦ let e : n ≡ i = omega (arith, h) in absurd (none (subst (λ (m : ℕ). IsHeadNumber program nodes m) e head))
    ];
  }

  pub loops_push : (i : ℕ) (loops : List ULoop) (l : ULoop) → AreLoopsTo program nodes edges i loops → l.head ≡ i → IsLoop program nodes edges l
      → AreLoopsTo program nodes edges (i + 1) (loops ++ l ∷ [])
  loops_push i loops l a e is = record {
    ascending = all_pairs_push (λ l m. l.head < m.head) loops l a.ascending (λ k d within. omega (arith, a.below k d within, e));
    each = All-push (λ l. IsLoop program nodes edges l) loops l a.each is;
    below = All-push (λ l. l.head < i + 1) loops l (All-weaker (λ l. l.head < i) (λ l. l.head < i + 1) (λ l h. omega (arith, h)) loops a.below) (omega (arith, e));
    whole = λ n h head. elim (cases_lt n i) [
      | inl less ↦ any_left (λ l. l.head ≡ n) loops (l ∷ []) (a.whole n less head)
      | inr more ↦ let s : l.head ≡ n = omega (arith, h, e) in Any-push (λ l. l.head ≡ n) loops l s
    ];
  }

  pub loops_all : (i : ℕ) (loops : List ULoop) → AreLoopsTo program nodes edges i loops → length nodes ≤ i → AreLoops program nodes edges loops
  loops_all i loops a all = record {
    ascending = a.ascending;
    each = a.each;
    whole = λ n h. a.whole n (omega (arith, all, slice_get_within nodes n h.node h.stands)) h;
  }

-- edges by a number that rises
bit : Bool → ℕ
bit true = 1
bit false = 0

bit_small : (b : Bool) → bit b ≤ 1
unfolding bit
bit_small true = omega arith
bit_small false = omega arith

abbrev edge_key : Edge → ℕ
edge_key e = e.from * 8192 + (e.to * 2 + bit e.taken)

zero_bit : bit false ≡ 0
unfolding bit
zero_bit = refl

one_bit : bit true ≡ 1
unfolding bit
one_bit = refl

key_less : (e f : Edge) → e.to < 4096 → f.to < 4096 → IsEdgeBefore e f → edge_key e < edge_key f
key_less e f he hf (inl h) = omega (arith, bit_small e.taken, bit_small f.taken)
key_less e f he hf (inr (a, inl h)) = omega (arith, bit_small e.taken, bit_small f.taken)
key_less e f he hf (inr (a, inr (b, c, d))) =
    let x : bit e.taken ≡ 0 = ap bit c ∙ zero_bit in
    let y : bit f.taken ≡ 1 = ap bit d ∙ one_bit in
    omega (arith, x, y)

module _ (program : Program) (nodes : List UNode) (edges : List Edge) (are : AreEdges program nodes edges) (few : length nodes ≤ most_nodes) where
  within_nodes : (k : ℕ) (d : Edge) → k < length edges → ((get_or edges k d).from < 4096) × ((get_or edges k d).to < 4096)
  within_nodes k d h =
      let e = are.each k d h in
      (omega (arith, slice_get_within nodes (get_or edges k d).from e.source e.from), omega (arith, slice_get_within nodes (get_or edges k d).to e.target e.to))

  keys_rise : AllPairs (λ e f. edge_key e < edge_key f) edges
  keys_rise i j d less within = key_less (get_or edges i d) (get_or edges j d) (within_nodes i d (omega (arith, less, within))).1 (within_nodes j d within).1 (are.ascending i j d less within)

  at_most : (k : ℕ) (d : Edge) → k < length edges → k < most_edges
  at_most k d h =
      let b = place_bound edge_key edges keys_rise k d h in
      let w = within_nodes k d h in
      omega (arith, b, w.0, w.1, bit_small (get_or edges k d).taken)

  -- there are no more than the code's numbers tell
  pub edges_few : length edges ≤ most_edges
  edges_few = elim (cases_lt most_edges (length edges)) [
    | inl more ↦ absurd (omega (arith, at_most most_edges (record { from = 0; to = 0; taken = false }) more))
    | inr less ↦ less
  ]

-- what is told of the node at a place
module _ (program : Program) (places : List Place) (i : ℕ) (p : Place) (is : slice_get places i ≡ Some p) where
  pub member_yes : (head : UNode) (info : LoopInfo) → IsMember program head info (node_of p) → IsMemberNumber program (nodes_of places) head info i
  member_yes head info m = record { node = node_of p; stands = node_stands places i p is; member = m }

  pub member_no : (head : UNode) (info : LoopInfo) → (IsMember program head info (node_of p) → ⊥) → IsMemberNumber program (nodes_of places) head info i → ⊥
  member_no head info none m =
      none (subst (λ (n : UNode). IsMember program head info n) (same_Some m.node (node_of p) (sym m.stands ∙ node_stands places i p is)) m.member)

  pub head_no : ((info : LoopInfo) → IsHeadOf program (node_of p) info → ⊥) → IsHeadNumber program (nodes_of places) i → ⊥
  head_no none h = none h.info
      (subst (λ (n : UNode). IsHeadOf program n h.info) (same_Some h.node (node_of p) (sym h.stands ∙ node_stands places i p is)) h.head)

pub member_within : (program : Program) (places : List Place) (head : UNode) (info : LoopInfo) (n : ℕ) → IsMemberNumber program (nodes_of places) head info n → n < length places
member_within program places head info n m = subst (λ (k : ℕ). n < k) (length-map places node_of) (slice_get_within (nodes_of places) n m.node m.stands)

module _ (edges : List Edge) (head : ℕ) (members : List ℕ) (inside : Bool) where
  pub into_yes : (i : ℕ) (e : Edge) → slice_get edges i ≡ Some e → LeadsInto head members inside e → LeadsIntoAt edges head members inside i
  into_yes i e is l = record { edge = e; stands = is; leads = l }

  pub into_no : (i : ℕ) (e : Edge) → slice_get edges i ≡ Some e → (LeadsInto head members inside e → ⊥) → LeadsIntoAt edges head members inside i → ⊥
  into_no i e is none l = none (subst (λ (x : Edge). LeadsInto head members inside x) (same_Some l.edge e (sym l.stands ∙ is)) l.leads)

  pub into_within : (n : ℕ) → LeadsIntoAt edges head members inside n → n < length edges
  into_within n l = slice_get_within edges n l.edge l.stands

pub all_places : (program : Program) (order : IsInOrder program) (places : List Place) → AreNodes program (nodes_of places) → All (λ p. HasPlace program p) places
all_places program order places are k d within = reached_has_place program order (get_or places k d)
    (reached_at program places k (get_or places k d) are (slice_get-get_or places k d within))

pub loops_more : (program : Program) (nodes : List UNode) (edges : List Edge) (i : ℕ) (old new : List ULoop) (found : Option ULoop)
    → AreLoopsTo program nodes edges i old → MatchOption found (IsHeadNumber program nodes i → ⊥) (λ l. (l.head ≡ i) × IsLoop program nodes edges l)
    → MatchOption found (new ≡ old) (λ l. new ≡ old ++ l ∷ []) → AreLoopsTo program nodes edges (i + 1) new
loops_more program nodes edges i old new None a told is =
    subst (λ (l : List ULoop). AreLoopsTo program nodes edges (i + 1) l) (sym is) (loops_skip program nodes edges i old a told)
loops_more program nodes edges i old new (Some l) a told is =
    subst (λ (l : List ULoop). AreLoopsTo program nodes edges (i + 1) l) (sym is) (loops_push program nodes edges i old l a told.0 told.1)

pub the_unfolding : (program : Program) (u : Unfolded) (nodes : List UNode) (edges : List Edge) (loops : List ULoop) → u.program ≡ program → u.nodes ≡ nodes
    → u.edges ≡ edges → u.loops ≡ loops → AreNodes program nodes → IsStartNumber program nodes u.start → AreEdges program nodes edges
    → AreLoops program nodes edges loops → IsUnfolding program u
the_unfolding program u nodes edges loops kept en ee el are start es ls = record {
  kept = kept;
  nodes = subst (λ (l : List UNode). AreNodes program l) (sym en) are;
  start = subst (λ (l : List UNode). IsStartNumber program l u.start) (sym en) start;
  edges = subst (λ (l : List UNode). AreEdges program l u.edges) (sym en) (subst (λ (l : List Edge). AreEdges program nodes l) (sym ee) es);
  loops = subst (λ (l : List UNode). AreLoops program l u.edges u.loops) (sym en) (subst (λ (l : List Edge). AreLoops program nodes l u.loops) (sym ee)
      (subst (λ (l : List ULoop). AreLoops program nodes edges l) (sym el) ls));
}
